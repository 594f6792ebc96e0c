-- `put_between` meets its contract: one run after another.
use Rattle.write_bytes.proofs.Stores.{then, room_after, room_middle}
use Rattle.write_bytes.proofs.Form.put_between.Goals as goal

pub put-requires-2 : goal.put-requires-2
put-requires-2 c = room_middle _ _ c.put.ensures c.requires

pub put-requires-3 : goal.put-requires-3
put-requires-3 c = room_after _ c.put-2.ensures (room_after _ c.put.ensures c.requires)

pub returns : goal.returns
returns c = then c.put.ensures (then c.put-2.ensures c.put-3.ensures)
