-- `pair_order` meets its contract.
use Rattle.page.proofs.PageLaws.{then, as_words, more, done, rest_next, rest_none, grid-next, grid_none}
use Rattle.join_order.proofs.OrderWords.{few_arcs, paired_few, paired_positions, paired_order-words}
use borrow.Author.Rules.{rules}
use Rattle.join_order.proofs.pair_order.Goals as goal

pub overflow_cast-arcs : goal.overflow_cast-arcs
overflow_cast-arcs c = let h = c.requires.at_S in search (few_arcs (c.order_of-s.ensures _ _ h) h.ranges, rules)

pub overflow_cast-arcs-2 : goal.overflow_cast-arcs-2
overflow_cast-arcs-2 c = let h = c.requires.at_T in search (few_arcs (c.order_of-t.ensures _ _ h) h.ranges, rules)

pub overflow_mul-arcs : goal.overflow_mul-arcs
overflow_mul-arcs c =
    let h = c.requires.at_S in
    let k = c.requires.at_T in
    search (paired_few (c.order_of-s.ensures _ _ h) (c.order_of-t.ensures _ _ k) h.ranges k.ranges, rules)

pub overflow_mul-s : goal.overflow_mul-s
overflow_mul-s c =
    let h = c.requires.at_S in
    let k = c.requires.at_T in
    search (paired_positions (c.order_of-s.ensures _ _ h) (c.order_of-t.ensures _ _ k) c.requires.few, rules)

pub pair_row-requires : goal.pair_row-requires
pair_row-requires c =
    let h = c.requires.at_T in
    rw (c.order_of-t.ensures _ _ h).positions h.ranges.few_positions

pub loop-v-preserved : goal.loop-v-preserved
loop-v-preserved c = search (more, grid-next, rest_next, rules)

pub returns : goal.returns
returns c = λ o u h k.
    let v = c.requires in
    let fit = paired_positions (c.order_of-s.ensures _ _ v.at_S) (c.order_of-t.ensures _ _ v.at_T) v.few in
    let s = c.order_of-s.ensures _ o h in
    let t = c.order_of-t.ensures _ u k in
    as_words (paired_order-words s t c.args.sizes.few h.ranges k.ranges fit c.pair_set-accepting.ensures)
    (then c.put_head.ensures (search (done, grid_none, rest_none, rules)))
