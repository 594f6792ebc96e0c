-- `bits::has` meets its contract.
use Rattle.bits.proofs.BitLaws.{shifted_bit}
use Rattle.bits.proofs.has.Goals as goal

pub returns : goal.returns
returns c = rw c.unbounded_shr.ensures (shifted_bit _ _ c.ranges.set.fits)
