-- The loop of `try_all` keeps: what is found so far, and what the rules that are left on the chain give, are what all of them give.
use Rattle.judge_order.specs.Order.{states_of}
use Rattle.judge_contents.proofs.ContentLaws.{Trying}
use Rattle.judge_contents.proofs.Element.try_all.Given as goal

abbrev pub invariant-loop-rule : goal.invariant-loop-rule
invariant-loop-rule l =
    (goal.iterator-loop-rule).can_next l.rule-iterator
    × (goal.iterator-loop-rule).is_finite l.rule-iterator
    × Trying l.fn.self.book.now.sheet (states_of l.fn.self.children.words.now) l.rule-iterator l.targets l.looks
