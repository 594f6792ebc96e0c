-- `judge_order::next_set` meets its contract.
use Rattle.judge_order.proofs.OrderLaws.{ArcsLeft}
use Rattle.judge_order.proofs.next_set.Given as goal

abbrev pub invariant-loop-word : goal.invariant-loop-word
invariant-loop-word l = ArcsLeft l.arcs l.set l.state l.next l.word-index
