-- `Book::text_targets` meets its contract: so far the set holds what the rules before those that are left give.
use Rattle.model.specs.Bytes.{text_kind}
use Rattle.model.specs.Run.{at_text}
use Rattle.model.specs.Index.{rules_in}
use Rattle.judge_rules.proofs.TargetLaws.{OnChain}
use Rattle.judge_rules.proofs.numbers.Book.text_targets.Given as goal

abbrev pub invariant-loop-rule : goal.invariant-loop-rule
invariant-loop-rule l =
    (goal.iterator-loop-rule).can_next l.rule-iterator
    × (goal.iterator-loop-rule).is_finite l.rule-iterator
    × OnChain (at_text (text_kind l.fn.kind)) (text_kind l.fn.kind) (rules_in l.fn.self.sheet.words.now) l.rule-iterator l.targets
