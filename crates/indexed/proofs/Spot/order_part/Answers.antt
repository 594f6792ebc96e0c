-- `order_part` meets its contract: the map tells whether there is one.
use Rattle.indexed.proofs.RuleParts.{order_option}
use Rattle.indexed.proofs.Spot.order_part.Goals as goal

pub returns : goal.returns
returns c = order_option c.args.self.now c.has_order.ensures c.part_at.ensures c.then_some.ensures
