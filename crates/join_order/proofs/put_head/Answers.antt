-- `put_head` meets its contract.
use Rattle.page.proofs.PageLaws.{then}
use Rattle.join_order.proofs.put_head.Goals as goal

pub returns : goal.returns
returns c = then c.put.ensures (then c.put_set.ensures c.put-2.ensures)
