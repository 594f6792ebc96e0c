-- `bits::size` meets its contract.
use Rattle.bits.proofs.MemberLaws.{size_is}
use Rattle.bits.proofs.size.Goals as goal

pub returns : goal.returns
returns c = size_is 64 _ c.ranges.set.fits
