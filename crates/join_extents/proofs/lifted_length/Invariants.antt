-- `lifted_length` meets its contract. The loop keeps: the steps before those that are left are measured.
use Rattle.join_extents.proofs.LiftLaws.{Measured}
use Rattle.join_extents.proofs.lifted_length.Given as goal

abbrev pub invariant-loop-step : goal.invariant-loop-step
invariant-loop-step l =
    (goal.iterator-loop-step).can_next l.step-iterator
    × (goal.iterator-loop-step).is_finite l.step-iterator
    × Measured l.fn.part l.more l.lifted l.step-iterator
