-- `sheet_count::count_part` meets its contract.
use native.Mathlib.Omega.{arith}
use Rattle.model.specs.Sheet.{steps}
use Rattle.sheet_walk.proofs.WalkLaws.{stops, word_passes, leads_first, leads_more, leads_bad, leads_done}
use Rattle.sheet_count.proofs.count_part.Goals as goal

pub returns-in_err-n : goal.returns-in_err-n
unfolding steps
returns-in_err-n c = stops c.between.ensures _ c.in_err-n.was c.from_residual.ensures

pub loop-i-init : goal.loop-i-init
loop-i-init c = leads_first

pub returns-in_err-step : goal.returns-in_err-step
unfolding steps
returns-in_err-step c = word_passes c.between.ensures _ c.in_ok-n.was
    (leads_bad c.loop-i.invariant (omega arith) c.step.ensures c.in_err-step.was c.from_residual-in_err-step.ensures)

pub loop-i-preserved : goal.loop-i-preserved
loop-i-preserved c = leads_more c.loop-i.invariant (omega arith) c.step.ensures c.in_ok-step.was

pub returns : goal.returns
unfolding steps
returns c = word_passes c.between.ensures _ c.in_ok-n.was (leads_done c.loop-i.invariant (omega arith))
