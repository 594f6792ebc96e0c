-- `set_below` meets its contract.
use native.Mathlib.Omega.{arith}
use Rattle.model.specs.Sheet.{set_below}
use Rattle.sheet_walk.proofs.WalkLaws.{stops, word_passes, set_read}
use Rattle.sheet_walk.proofs.Walk.set_below.Goals as goal

pub returns-in_err-low : goal.returns-in_err-low
unfolding set_below
returns-in_err-low c = let low = rw c.min.ensures at c.bits_below.ensures in stops low _ c.in_err-low.was c.from_residual.ensures

pub returns-in_err-high : goal.returns-in_err-high
unfolding set_below
returns-in_err-high c =
    let low = rw c.min.ensures at c.bits_below.ensures in
    let high = rw c.saturating_sub.ensures at c.bits_below-2.ensures in
    word_passes low _ c.in_ok-low.was (stops high _ c.in_err-high.was c.from_residual-in_err-high.ensures)

pub returns : goal.returns
returns c = set_read _ (omega arith) (omega arith) c.bits_below.ensures c.bits_below-2.ensures c.in_ok-low.was c.in_ok-high.was
    c.of_words.ensures
