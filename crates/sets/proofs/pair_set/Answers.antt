-- `pair_set` meets its contract.
use mathlib.Core.Path.{sym, ◌∙◌}
use native.Mathlib.Omega.{arith}
use Rattle.sets.proofs.SetLaws.{no_columns, many_pairs, no_rows, all_rows, row_fits, row_in, row_out}
use borrow.Author.Rules.{rules}
use Rattle.sets.proofs.pair_set.Goals as goal
use Rattle.sets.proofs.pair_set.Goals.{then-has, else-has}
use Rattle.sets.proofs.pair_set.Goals.{then-n-eq0-via-then-n-eq0, then-n-eq0-via-else-n-eq0+then-saturating_mul-gt-LIMIT}

pub returns-then-n-eq0 : goal.returns-then-n-eq0
returns-then-n-eq0 c = elim c.then-n-eq0.branch [
  | then-n-eq0-via-then-n-eq0 w ↦ no_columns _ _ _ _ w.if-n-eq0.true
  | then-n-eq0-via-else-n-eq0+then-saturating_mul-gt-LIMIT w ↦
      many_pairs _ _ _ _ (omega (arith, w.saturating_mul.ensures, w.if-saturating_mul-gt-LIMIT.true))
]

pub loop-i-init : goal.loop-i-init
loop-i-init c = no_rows _ _ _ _ c.if-n-eq0.false (omega (arith, c.saturating_mul.ensures, c.if-saturating_mul-gt-LIMIT.false))

pub overflow_add-set : goal.overflow_add-set
overflow_add-set c =
    record { fits = row_fits c.loop-i.invariant c.loop-i-test.true c.below-row.ensures (sym c.if-has.true ∙ c.has.ensures) }

pub loop-i-preserved : goal.loop-i-preserved
loop-i-preserved c = elim c.if-has.branch [
  | then-has w ↦ rw w.set-is (row_in c.loop-i.invariant c.loop-i-test.true c.below-row.ensures (sym w.if-has.true ∙ c.has.ensures))
  | else-has w ↦ rw w.set-is (row_out c.loop-i.invariant c.loop-i-test.true c.below-row.ensures (sym w.if-has.false ∙ c.has.ensures))
]

pub returns : goal.returns
returns c = search (all_rows, rules)
