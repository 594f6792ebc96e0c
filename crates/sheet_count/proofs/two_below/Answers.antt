-- `sheet_count::two_below` meets its contract.
use Rattle.model.specs.Sheet.{two_earlier}
use Rattle.sheet_walk.proofs.WalkLaws.{stops, passes, last}
use Rattle.sheet_count.proofs.two_below.Goals as goal

pub returns-in_err-below : goal.returns-in_err-below
unfolding two_earlier
returns-in_err-below c = λ f. stops c.below.ensures _ c.in_err-below.was c.from_residual.ensures

pub returns : goal.returns
unfolding two_earlier
returns c = λ f. passes c.below.ensures _ c.in_ok-below.was (λ j _ _. last _ c.below-2.ensures)
