-- What the loop of `lift_order` keeps.
use lib.ListN.{drop}
use Rattle.join_pairs.specs.Sides.{side_of, sizes_of}
use Rattle.join_order.specs.Orders.{lifted_grid}
use Rattle.page.proofs.PageLaws.{Left}
use Rattle.join_order.proofs.lift_order.Given as goal

abbrev pub invariant-loop-arc : goal.invariant-loop-arc
invariant-loop-arc l =
    let lifted = lifted_grid (side_of l.half.side) (sizes_of l.half.sizes) in
    Left l.initial.page (lifted l.arc-items) l.page (lifted (drop l.arc-index l.arc-items))
