-- `Book::tag_targets` meets its contract: so far the set holds what the rules before those that are left give.
use Prim.Native.Nat.{◌+◌}
use Rattle.judge_rules.specs.Rules.{at_tag_with}
use Rattle.model.specs.Index.{rules_in}
use Rattle.judge_rules.proofs.TargetLaws.{OnChain}
use Rattle.judge_rules.proofs.numbers.Book.tag_targets.Given as goal

abbrev pub invariant-loop-rule : goal.invariant-loop-rule
invariant-loop-rule l =
    (goal.iterator-loop-rule).can_next l.rule-iterator
    × (goal.iterator-loop-rule).is_finite l.rule-iterator
    × OnChain (at_tag_with l.fn.tag l.fn.inner) (2 + l.fn.tag) (rules_in l.fn.self.sheet.words.now) l.rule-iterator l.targets
