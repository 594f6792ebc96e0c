-- `judge_count::occurrences` meets its contract.
use Rattle.judge_count.proofs.SumLaws.{CountsTo}
use Rattle.judge_count.proofs.occurrences.Given as goal

abbrev pub invariant-loop-word : goal.invariant-loop-word
invariant-loop-word l = CountsTo l.children.words.now l.counts l.word-index
