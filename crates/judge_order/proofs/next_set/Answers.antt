-- `judge_order::next_set` meets its contract.
use mathlib.Core.Path.{◌∙◌}
use Rattle.judge_order.proofs.OrderLaws.{no_arc, other_arc, one_arc, all-arcs}
use Rattle.judge_order.proofs.next_set.Goals as goal
use Rattle.judge_order.proofs.next_set.Goals.{then-arc-state, else-arc-state}

pub loop-word-init : goal.loop-word-init
loop-word-init c = no_arc

pub loop-word-preserved : goal.loop-word-preserved
loop-word-preserved c =
    let here = c.loop-word-test.true in
    let arc = c.from-arc.ensures in
    elim c.if-arc-state.branch [
      | then-arc-state w ↦
          one_arc c.loop-word.invariant here arc w.if-arc-state.true (c.requires _ here) w.has.ensures (w.next-is ∙ w.with_if-next.ensures)
      | else-arc-state w ↦ other_arc c.loop-word.invariant here arc w.if-arc-state.false w.next-is
    ]

pub returns : goal.returns
returns c = all-arcs c.loop-word.invariant c.loop-word-test.false
