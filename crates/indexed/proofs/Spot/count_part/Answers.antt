-- `count_part` meets its contract: the map tells whether there is one.
use Rattle.indexed.proofs.RuleParts.{count_in}
use Rattle.indexed.proofs.Spot.count_part.Goals as goal

pub returns : goal.returns
returns c = rw c.part_at.ensures (count_in c.args.self.now c.has_count.ensures c.if-not-has_count.false c.after_order.ensures)
