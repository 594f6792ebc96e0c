-- `sheet_walk::within_bits` meets its contract.
use native.Mathlib.Omega.{arith}
use Rattle.sheet_walk.proofs.WordTests.{shifted}
use Rattle.sheet_walk.proofs.within_bits.Goals as goal

pub returns : goal.returns
returns c = rw c.unbounded_shr.ensures (shifted _ _ (omega arith))
