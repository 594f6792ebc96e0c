-- `judge_order::read_all` meets its contract.
use mathlib.Core.Path.{◌≡◌}
use Rattle.judge_order.proofs.OrderLaws.{ChildrenLeft}
use Rattle.judge_order.proofs.read_all.Given as goal

abbrev pub invariant-loop-word : goal.invariant-loop-word
invariant-loop-word l = ChildrenLeft l.arcs l.children.words.now l.set l.word-index × (l.reads ≡ l.word-index)
