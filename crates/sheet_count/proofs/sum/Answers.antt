-- `sheet_count::sum` meets its contract: as many coefficients follow as the set of the two words has members.
use mathlib.Core.Path.{sym, ◌∙◌}
use mathlib.Core.Bool.{◌&&◌}
use native.Mathlib.Omega.{arith}
use borrow.Author.Rules.{rules}
use Rattle.model.specs.Sheet.{W, below, small, signed, coefficient, sum}
use Rattle.sheet_walk.proofs.WalkLaws.{stops, passes, all_words}
use Rattle.sheet_count.proofs.Marks.{marks_many}
use Rattle.sheet_count.proofs.sum.Goals as goal

pub returns-in_err-marks : goal.returns-in_err-marks
unfolding sum
returns-in_err-marks c = stops c.set_below.ensures _ c.in_err-marks.was c.from_residual.ensures

pub returns : goal.returns
unfolding sum coefficient
returns c = passes c.set_below.ensures _ c.in_ok-marks.was (λ l read bits.
    all_words (λ w. below W w && small (signed w)) (λ q w. record { state = q; times = signed w }) l
    (marks_many _ _ _ _ l read (omega arith) bits ∙ sym c.size.ensures) (c.all_good.ensures _ (λ w b fits k. search rules)))
