-- The loop of `sum` keeps: the coefficients that are left make, with what is summed, the whole sum.
use Rattle.model.specs.Sheet.{members}
use Rattle.judge_count.proofs.SumLaws.{SumLeft}
use Rattle.judge_count.proofs.Counts.sum.Given as goal

abbrev pub invariant-loop-q : goal.invariant-loop-q
invariant-loop-q l =
    (goal.iterator-loop-q).can_next l.q-iterator
    × (goal.iterator-loop-q).is_finite l.q-iterator
    × SumLeft l.words l.self.each.now (members 64 l.q-iterator.set) l.rest l.total
