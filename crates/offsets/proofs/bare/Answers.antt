-- `offsets::bare` meets its contract.
use mathlib.Core.Path.{sym}
use Rattle.offsets.proofs.Parts.{part_some, part_none}
use Rattle.offsets.proofs.bare.Goals as goal

pub returns-then-stop-at : goal.returns-then-stop-at
returns-then-stop-at c = sym (part_none _ _ _ _ c.min-stop.ensures c.if-stop-at.true)

pub returns : goal.returns
returns c = sym (part_some _ _ _ _ c.min-stop.ensures)
