-- `sheet_rules::put_place` meets its contract.
use mathlib.Core.Path.{sym}
use lib.Seq.{set_out}
use Rattle.sheet_rules.proofs.put_place.Goals as goal

pub returns-else-k-places : goal.returns-else-k-places
returns-else-k-places c = sym (set_out _ _ _ c.if-k-places.false)
