-- `has_count` meets its contract: the map tells the parts.
use Rattle.indexed.proofs.RuleParts.{with_count}
use Rattle.indexed.proofs.Spot.has_count.Goals as goal

pub returns : goal.returns
returns c = with_count c.args.self.now c.map.ensures c.has_count.ensures
