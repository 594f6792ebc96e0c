-- `sheet_count::remainder` meets its contract.
use Rattle.model.specs.Sheet.{remainder_step}
use Rattle.sheet_walk.proofs.WalkLaws.{stops, passes, word_passes, last}
use Rattle.sheet_count.proofs.remainder.Goals as goal

pub returns-in_err-sum : goal.returns-in_err-sum
unfolding remainder_step
returns-in_err-sum c = stops c.sum.ensures _ c.in_err-sum.was c.from_residual.ensures

pub returns-in_err-modulus : goal.returns-in_err-modulus
unfolding remainder_step
returns-in_err-modulus c = passes c.sum.ensures _ c.in_ok-sum.was (λ cs _ _.
    stops c.between.ensures _ c.in_err-modulus.was c.from_residual-in_err-modulus.ensures)

pub returns : goal.returns
unfolding remainder_step
returns c = passes c.sum.ensures _ c.in_ok-sum.was (λ cs _ _.
    word_passes c.between.ensures _ c.in_ok-modulus.was (last _ c.below.ensures))
