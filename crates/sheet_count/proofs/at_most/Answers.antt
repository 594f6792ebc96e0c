-- `sheet_count::at_most` meets its contract.
use Rattle.model.specs.Sheet.{at_most_step}
use Rattle.sheet_walk.proofs.WalkLaws.{stops, passes, word_passes, nowhere}
use Rattle.sheet_count.proofs.at_most.Goals as goal

pub returns-in_err-sum : goal.returns-in_err-sum
unfolding at_most_step
returns-in_err-sum c = stops c.sum.ensures _ c.in_err-sum.was c.from_residual.ensures

pub returns-in_err-any_word : goal.returns-in_err-any_word
unfolding at_most_step
returns-in_err-any_word c = passes c.sum.ensures _ c.in_ok-sum.was (λ cs _ _.
    stops c.any_word.ensures.small _ c.in_err-any_word.was c.from_residual-in_err-any_word.ensures)

pub returns : goal.returns
unfolding at_most_step
returns c = passes c.sum.ensures _ c.in_ok-sum.was (λ cs _ _.
    word_passes c.any_word.ensures.small _ c.in_ok-any_word.was (nowhere _))
