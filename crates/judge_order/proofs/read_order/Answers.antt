-- `judge_order::read_order` meets its contract.
use native.Mathlib.Omega.{arith}
use Rattle.judge_order.proofs.OrderLaws.{part_long, arcs-within, order-says}
use Rattle.judge_order.proofs.read_order.Goals as goal

pub bounds-part-1 : goal.bounds-part-1
bounds-part-1 c = omega (arith, part_long c.requires)

pub bounds-part : goal.bounds-part
bounds-part c = omega (arith, part_long c.requires)

pub slice_bounds-read_all-count : goal.slice_bounds-read_all-count
slice_bounds-read_all-count c = omega (arith, part_long c.requires)

pub slice_bounds-read_all-start : goal.slice_bounds-read_all-start
slice_bounds-read_all-start c = omega (arith, part_long c.requires)

pub read_all-last-requires : goal.read_all-last-requires
read_all-last-requires c = arcs-within c.requires

pub returns : goal.returns
returns c = order-says c.read_all-last.ensures c.of_words-accepting.ensures c.meet.ensures
