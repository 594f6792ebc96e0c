-- `targets::with_target` meets its contract.
use mathlib.Core.Path.{sym, refl, ◌∙◌}
use mathlib.Core.Bool.{false}
use Rattle.bits.proofs.BitLaws.{without_bit}
use Rattle.judge_rules.proofs.targets.with_target.Goals as goal

pub returns-then-has : goal.returns-then-has
returns-then-has c = rw (sym c.has.ensures ∙ c.if-has.true) c.with_if.ensures

pub returns : goal.returns
returns c = rw (sym c.has.ensures ∙ c.if-has.false) (without_bit false _ 0 c.ranges.targets.fits refl)
