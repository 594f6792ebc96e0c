-- What the loop of `pair_row` keeps.
use lib.ListN.{drop}
use Rattle.model.specs.Lists.{row}
use Rattle.join_order.specs.Orders.{paired_arc}
use Rattle.page.proofs.PageLaws.{Left}
use Rattle.join_order.proofs.pair_row.Given as goal

abbrev pub invariant-loop-w : goal.invariant-loop-w
invariant-loop-w l = let f = paired_arc l.m l.sizes.t in Left l.initial.page (row f l.arcs l.v) l.page (row f (drop l.w-index l.arcs) l.v)
