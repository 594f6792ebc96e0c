-- `of_row` meets its contract. The loop keeps: what is tallied, and what the pairs that are left make, is the whole row.
use mathlib.Core.Path.{◌≡◌}
use Rattle.model.specs.Compose.{of_pairs}
use Rattle.join_pairs.specs.Sides.{sizes_of}
use Rattle.join_alike.specs.Alike.{row_joint, joint_left}
use Rattle.join_limits.proofs.LimitLaws.{TallyLeft}
use Rattle.join_limits.proofs.Tally.of_row.Given as goal

abbrev pub invariant-loop-pair : goal.invariant-loop-pair
invariant-loop-pair l =
    (goal.iterator-loop-pair).can_next l.pair-iterator
    × (goal.iterator-loop-pair).is_finite l.pair-iterator
    × (l.pair-iterator.rule ≡ l.fn.row.rule)
    × (l.pair-iterator.sizes ≡ l.fn.row.sizes)
    × TallyLeft (of_pairs (sizes_of l.fn.row.sizes)) (row_joint l.fn.row) l.tally (joint_left l.pair-iterator)
