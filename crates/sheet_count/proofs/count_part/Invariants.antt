-- `sheet_count::count_part` meets its contract.
use Rattle.model.specs.Sheet.{step}
use Rattle.sheet_walk.proofs.WalkLaws.{Leads}
use Rattle.sheet_count.proofs.count_part.Given as goal

abbrev pub invariant-loop-i : goal.invariant-loop-i
invariant-loop-i l = Leads (step l.p) l.n l.i l.initial.walk l.walk
