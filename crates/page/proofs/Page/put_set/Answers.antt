-- `put_set` meets its contract.
use Rattle.page.proofs.PageLaws.{then}
use Rattle.page.proofs.Page.put_set.Goals as goal

pub returns : goal.returns
returns c = then c.put.ensures c.put-2.ensures
