-- `has_order` meets its contract: the map tells the parts.
use Rattle.indexed.proofs.RuleParts.{with_order}
use Rattle.indexed.proofs.Spot.has_order.Goals as goal

pub returns : goal.returns
returns c = with_order c.args.self.now c.map.ensures c.has_order.ensures
