-- `sheet_count::step` meets its contract.
use mathlib.Core.Path.{refl}
use native.Mathlib.Omega.{arith}
use borrow.Author.Tests.{ne_eqb}
use Rattle.model.specs.Sheet.{one_earlier, step}
use Rattle.sheet_walk.proofs.WalkLaws.{last, keyed, keyless, bad_there}
use Rattle.sheet_count.proofs.step.Goals as goal

pub returns-in_err-any_word : goal.returns-in_err-any_word
unfolding step
returns-in_err-any_word c = keyless _ c.any_word.ensures.any c.in_err-any_word.was c.from_residual.ensures

pub returns-in-1 : goal.returns-in-1
unfolding step
returns-in-1 c = keyed _ c.any_word.ensures.any c.in_ok-any_word.was c.in-1.is c.at_most.ensures

pub returns-in-2 : goal.returns-in-2
unfolding step
returns-in-2 c = keyed _ c.any_word.ensures.any c.in_ok-any_word.was c.in-2.is c.remainder.ensures

pub returns-in-3 : goal.returns-in-3
unfolding step one_earlier
returns-in-3 c = keyed _ c.any_word.ensures.any c.in_ok-any_word.was c.in-3.is (last _ c.below.ensures)

pub returns-in-4 : goal.returns-in-4
unfolding step
returns-in-4 c = keyed _ c.any_word.ensures.any c.in_ok-any_word.was c.in-4.is (c.two_below.ensures _)

pub returns-in-5 : goal.returns-in-5
unfolding step
returns-in-5 c = keyed _ c.any_word.ensures.any c.in_ok-any_word.was c.in-5.is (c.two_below-in-5.ensures _)

pub returns-in_default : goal.returns-in_default
unfolding step
returns-in_default c =
    let k = c.in_ok-any_word.field-0 in
    keyed _ c.any_word.ensures.any c.in_ok-any_word.was refl
    (bad_there (rw (
      ne_eqb k 1 (omega arith),
      ne_eqb k 2 (omega arith),
      ne_eqb k 3 (omega arith),
      ne_eqb k 4 (omega arith),
      ne_eqb k 5 (omega arith),
    )))
