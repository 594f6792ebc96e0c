-- The loop of `fit` keeps: the steps that are left come, with the truths of the others, to what all of them come to.
use Rattle.judge_count.proofs.StepLaws.{StepsLeft}
use Rattle.judge_count.proofs.Counts.fit.Given as goal

abbrev pub invariant-loop-i : goal.invariant-loop-i
invariant-loop-i l = StepsLeft l.part l.self.each.now l.steps l.truths l.i l.rest
