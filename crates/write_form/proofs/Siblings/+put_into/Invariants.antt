-- `put_into` meets its contract. The measure is the remaining depth; the loop keeps `Along`.
use Rattle.write_form.proofs.Loops.{Along}
use Rattle.write_form.proofs.Siblings.+put_into.Given as goal

abbrev pub decreases-put_into : goal.decreases-put_into
decreases-put_into l = l.self.levels

abbrev pub invariant-loop-i : goal.invariant-loop-i
invariant-loop-i l =
    (goal.iterator-loop-i).can_next l.i-iterator
    × (goal.iterator-loop-i).is_finite l.i-iterator
    × Along l.fn.self l.i-iterator l.initial.form l.form
