-- `bits::meet` meets its contract.
use Rattle.bits.proofs.SetLaws.{and-members}
use Rattle.bits.proofs.meet.Goals as goal

pub returns : goal.returns
returns c = and-members c.ranges.a.fits c.ranges.b.fits
