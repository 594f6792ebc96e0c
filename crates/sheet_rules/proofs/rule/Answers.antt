-- `sheet_rules::rule` meets its contract.
use mathlib.Core.Path.{refl}
use native.Mathlib.Omega.{arith}
use borrow.Author.Tests.{ne_eqb}
use Rattle.model.specs.Sheet.{target, text_rule, tag_rule, order_rule, count_rule, order_count_rule, rule}
use Rattle.sheet_walk.proofs.WalkLaws.{stops, passes, word_passes, last, keyed, keyless, bad_there}
use Rattle.sheet_rules.proofs.rule.Goals.{in-33+in_ok-between-in-33, in-38+in_ok-between-in-38+in_ok-below-in-38, in-32}
use Rattle.sheet_rules.proofs.rule.Goals.{in-40+in_ok-order_part-in-40, in-48+in_ok-count_part-in-48}
use Rattle.sheet_rules.proofs.rule.Goals.{in-56+in_ok-order_part-in-56+in_ok-count_part-in-56}
use Rattle.sheet_rules.proofs.rule.Goals as goal

pub returns-in_err-any_word : goal.returns-in_err-any_word
unfolding rule
returns-in_err-any_word c = keyless _ c.any_word.ensures.any c.in_err-any_word.was c.from_residual.ensures

pub returns-in_err-between-in-33 : goal.returns-in_err-between-in-33
unfolding rule text_rule
returns-in_err-between-in-33 c = keyed _ c.any_word.ensures.any c.in_ok-any_word.was c.in-33.is
    (stops c.between.ensures _ c.in_err-between-in-33.was c.from_residual-in_err-between-in-33.ensures)

pub returns-in_err-between-in-38 : goal.returns-in_err-between-in-38
unfolding rule tag_rule
returns-in_err-between-in-38 c = keyed _ c.any_word.ensures.any c.in_ok-any_word.was c.in-38.is
    (stops c.between-in-38.ensures _ c.in_err-between-in-38.was c.from_residual-in_err-between-in-38.ensures)

pub returns-in_err-below-in-38 : goal.returns-in_err-below-in-38
unfolding rule tag_rule
returns-in_err-below-in-38 c = keyed _ c.any_word.ensures.any c.in_ok-any_word.was c.in-38.is
    (word_passes c.between-in-38.ensures _ c.in_ok-between-in-38.was
    (stops c.below.ensures _ c.in_err-below-in-38.was c.from_residual-in_err-below-in-38.ensures))

pub returns-in_err-order_part-in-40 : goal.returns-in_err-order_part-in-40
unfolding rule order_rule
returns-in_err-order_part-in-40 c = keyed _ c.any_word.ensures.any c.in_ok-any_word.was c.in-40.is
    (stops c.order_part.ensures _ c.in_err-order_part-in-40.was c.from_residual-in_err-order_part-in-40.ensures)

pub returns-in_err-count_part-in-48 : goal.returns-in_err-count_part-in-48
unfolding rule count_rule
returns-in_err-count_part-in-48 c = keyed _ c.any_word.ensures.any c.in_ok-any_word.was c.in-48.is
    (stops c.count_part.ensures _ c.in_err-count_part-in-48.was c.from_residual-in_err-count_part-in-48.ensures)

pub returns-in_err-order_part-in-56 : goal.returns-in_err-order_part-in-56
unfolding rule order_count_rule
returns-in_err-order_part-in-56 c = keyed _ c.any_word.ensures.any c.in_ok-any_word.was c.in-56.is
    (stops c.order_part-in-56.ensures _ c.in_err-order_part-in-56.was c.from_residual-in_err-order_part-in-56.ensures)

pub returns-in_err-count_part-in-56 : goal.returns-in_err-count_part-in-56
unfolding rule order_count_rule
returns-in_err-count_part-in-56 c = keyed _ c.any_word.ensures.any c.in_ok-any_word.was c.in-56.is
    (passes c.order_part-in-56.ensures _ c.in_ok-order_part-in-56.was (λ o _ _.
    stops c.count_part-in-56.ensures _ c.in_err-count_part-in-56.was c.from_residual-in_err-count_part-in-56.ensures))

pub returns-in_default : goal.returns-in_default
unfolding rule
returns-in_default c =
    let m = c.in_ok-any_word.field-0 in
    keyed _ c.any_word.ensures.any c.in_ok-any_word.was refl
    (bad_there (rw (
      ne_eqb m 33 (omega arith),
      ne_eqb m 38 (omega arith),
      ne_eqb m 32 (omega arith),
      ne_eqb m 40 (omega arith),
      ne_eqb m 48 (omega arith),
      ne_eqb m 56 (omega arith),
    )))

-- every rule ends with its target state
pub returns : goal.returns
unfolding rule target text_rule tag_rule order_rule count_rule order_count_rule
returns c = elim c.match-branch-2.branch [
  | in-33+in_ok-between-in-33 w ↦ keyed _ c.any_word.ensures.any c.in_ok-any_word.was w.in-33.is
      (word_passes w.between.ensures _ w.in_ok-between-in-33.was (last _ (rw w.walk-is at c.below-2.ensures)))
  | in-38+in_ok-between-in-38+in_ok-below-in-38 w ↦ keyed _ c.any_word.ensures.any c.in_ok-any_word.was w.in-38.is
      (word_passes w.between-in-38.ensures _ w.in_ok-between-in-38.was
      (passes w.below.ensures _ w.in_ok-below-in-38.was (λ x _ _. last _ (rw w.walk-is at c.below-2.ensures))))
  | in-32 w ↦ keyed _ c.any_word.ensures.any c.in_ok-any_word.was w.in-32.is (last _ (rw w.walk-is at c.below-2.ensures))
  | in-40+in_ok-order_part-in-40 w ↦ keyed _ c.any_word.ensures.any c.in_ok-any_word.was w.in-40.is
      (passes w.order_part.ensures _ w.in_ok-order_part-in-40.was (λ o _ _. last _ (rw w.walk-is at c.below-2.ensures)))
  | in-48+in_ok-count_part-in-48 w ↦ keyed _ c.any_word.ensures.any c.in_ok-any_word.was w.in-48.is
      (passes w.count_part.ensures _ w.in_ok-count_part-in-48.was (λ ss _ _. last _ (rw w.walk-is at c.below-2.ensures)))
  | in-56+in_ok-order_part-in-56+in_ok-count_part-in-56 w ↦ keyed _ c.any_word.ensures.any c.in_ok-any_word.was w.in-56.is
      (passes w.order_part-in-56.ensures _ w.in_ok-order_part-in-56.was (λ o _ _.
      passes w.count_part-in-56.ensures _ w.in_ok-count_part-in-56.was (λ ss _ _. last _ (rw w.walk-is at c.below-2.ensures))))
]
