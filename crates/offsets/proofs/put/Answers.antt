-- `offsets::put` meets its contract.
use mathlib.Core.Path.{sym}
use lib.Seq.{set_out}
use Rattle.offsets.proofs.put.Goals as goal

pub returns-else-k-starts : goal.returns-else-k-starts
returns-else-k-starts c = sym (set_out _ _ _ c.if-k-starts.false)
