-- `numbers::count_rules` meets its contract: the numbers so far, with those of the rules that are left, make all.
use Rattle.model.specs.Index.{rules_in}
use Rattle.indexed.specs.Walks.{all_left}
use Rattle.judge_rules.proofs.TargetLaws.{Numbering}
use Rattle.judge_rules.proofs.numbers.count_rules.Given as goal

abbrev pub invariant-loop-rule : goal.invariant-loop-rule
invariant-loop-rule l =
    (goal.iterator-loop-rule).can_next l.rule-iterator
    × (goal.iterator-loop-rule).is_finite l.rule-iterator
    × Numbering (rules_in l.sheet.words.now) (all_left l.rule-iterator) l.ones l.twos l.counted
