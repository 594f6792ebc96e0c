-- `names::check` meets its contract: the check of the lines that are left says what the check of the list says.
use mathlib.Core.Path.{◌≡◌, sym, ◌∙◌}
use native.Mathlib.Omega.{arith}
use Rattle.model.proofs.Tests.{same, eqb_no}
use Rattle.tags.proofs.TableLaws.{table_begun, empty_unchained}
use Rattle.names.proofs.Checks.{check-first, check-good, after_line, said_none, said_bad, said-many, said-passed}
use Rattle.names.proofs.check.Goals as goal

pub returns-then-is_empty : goal.returns-then-is_empty
returns-then-is_empty c = said_none _ (same _ _ (sym c.is_empty.ensures ∙ c.if-is_empty.true))

pub loop-good-init : goal.loop-good-init
loop-good-init c = (
  check-first _ (eqb_no (sym c.is_empty.ensures ∙ c.if-is_empty.false)),
  table_begun _ _ c.index-count.ensures.table (empty_unchained c.new-table.ensures),
)

pub enter-requires : goal.enter-requires
enter-requires c = (omega arith, c.loop-good.invariant.1)

pub returns-then-not-enter : goal.returns-then-not-enter
returns-then-not-enter c = let bad = c.if-not-enter.true in
    said_bad _ _ (after_line _ _ _ bad c.enter.ensures.made).index _ c.loop-good.invariant.0
    (omega arith) (sym c.enter.ensures.good ∙ bad)

pub loop-good-preserved : goal.loop-good-preserved
loop-good-preserved c = let good = c.if-not-enter.false in (
  c.loop-good.invariant.0 ∙ check-good _ _ (omega arith) (sym c.enter.ensures.good ∙ good),
  after_line _ _ _ good c.enter.ensures.made,
)

pub returns-then-end-list : goal.returns-then-end-list
returns-then-end-list c =
    let all : c.loop-good.good ≡ c.index-count.result = omega arith in
    rw all at (said-many _ _ c.loop-good.invariant.1.index _ c.loop-good.invariant.0) (omega arith) c.if-end-list.true

pub returns : goal.returns
returns c =
    let all : c.loop-good.good ≡ c.index-count.result = omega arith in
    rw all at (said-passed _ _ c.loop-good.invariant.1.index _ c.loop-good.invariant.0) (omega arith) c.if-end-list.false
