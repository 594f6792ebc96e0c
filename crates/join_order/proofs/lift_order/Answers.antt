-- `lift_order` meets its contract.
use Rattle.join_pairs.specs.Sides.{side_of}
use Rattle.page.proofs.PageLaws.{then, as_words, more, done, rest_next, rest_none, grid-next, grid_none}
use Rattle.join_order.proofs.OrderWords.{few_arcs, lifted_few, lifted_order-words}
use borrow.Author.Rules.{rules}
use Rattle.join_order.proofs.lift_order.Goals as goal

pub overflow_cast-arcs : goal.overflow_cast-arcs
overflow_cast-arcs c = let (o, h) = c.requires in search (few_arcs (c.order_of-order.ensures _ o h) h.ranges, rules)

pub overflow_mul-arcs : goal.overflow_mul-arcs
overflow_mul-arcs c =
    let (o, h) = c.requires in
    search (lifted_few (side_of c.args.half.side) c.args.half.sizes.few (c.order_of-order.ensures _ o h) h.ranges c.other.ensures, rules)

pub loop-arc-preserved : goal.loop-arc-preserved
loop-arc-preserved c = search (more, grid-next, rest_next, rules)

pub returns : goal.returns
returns c = λ o h.
    as_words (lifted_order-words _ c.args.half.sizes.few (c.order_of-order.ensures _ o h) h.ranges c.other.ensures)
    (then c.put_head.ensures (search (done, grid_none, rest_none, rules)))
