-- What the loop of `pair_order` keeps.
use lib.ListN.{drop}
use Rattle.model.specs.Lists.{grid}
use Rattle.join_order.specs.Orders.{paired_arc}
use Rattle.page.proofs.PageLaws.{Left}
use Rattle.join_order.proofs.pair_order.Given as goal

abbrev pub invariant-loop-v : goal.invariant-loop-v
invariant-loop-v l =
    let f = paired_arc l.t.positions l.sizes.t in
    Left l.initial.page (grid f l.v-items l.t.arcs.now) l.page (grid f (drop l.v-index l.v-items) l.t.arcs.now)
