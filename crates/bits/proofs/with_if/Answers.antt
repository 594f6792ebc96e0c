-- `bits::with_if` meets its contract.
use Rattle.bits.proofs.BitLaws.{with_bit, without_bit}
use Rattle.bits.proofs.with_if.Goals as goal

pub returns-then-flag : goal.returns-then-flag
returns-then-flag c = rw (c.if-flag.true, c.unbounded_shl.ensures) (with_bit _ _ c.ranges.set.fits)

pub returns-else-flag : goal.returns-else-flag
returns-else-flag c = without_bit c.args.flag _ c.args.q c.ranges.set.fits (rw c.if-flag.false)
