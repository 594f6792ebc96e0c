-- `judge_states::state_word` meets its contract: no state, one, and two or more.
use mathlib.Core.Path.{◌∙◌, ap}
use mathlib.Core.List.{◌∷◌}
use native.Mathlib.Omega.{arith}
use Rattle.judge_states.proofs.StateLaws.{word_none, low_small, word_one, word_several}
use Rattle.judge_states.proofs.state_word.Goals as goal

pub overflow_add-result : goal.overflow_add-result
overflow_add-result c = omega (arith, low_small _ c.in-Some-None.ensures.steps)

pub returns-in-None-default : goal.returns-in-None-default
returns-in-None-default c = word_none (rw (c.in-None-default.is-0, c.members-members.ensures) at c.next.ensures.steps).0

pub returns-in-Some-None : goal.returns-in-Some-None
returns-in-Some-None c =
    let one = c.in-Some-None in
    word_one (rw c.members-members.ensures at one.ensures.steps ∙ ap (one.state ∷◌) one.ensures'.steps.0)

pub returns-in_default : goal.returns-in_default
returns-in_default c =
    let two = c.in_default in
    word_several (rw c.members-members.ensures at two.ensures.steps ∙ ap (two.field-0-0 ∷◌) two.ensures'.steps)
