-- What the loop of `lift_row` keeps.
use Prim.Native.Nat.{◌-◌}
use Rattle.model.specs.Lists.{from, row}
use Rattle.join_pairs.specs.Sides.{side_of, sizes_of}
use Rattle.join_order.specs.Orders.{lifted_arc, lifted_row}
use Rattle.page.proofs.PageLaws.{Left}
use Rattle.join_order.proofs.lift_row.Given as goal

abbrev pub invariant-loop-other : goal.invariant-loop-other
invariant-loop-other l =
    let side = side_of l.half.side in
    let n = sizes_of l.half.sizes in
    Left l.initial.page (lifted_row side n l.word) l.page (row (lifted_arc side n) (from (l.other-end - l.other) l.other) l.word)
