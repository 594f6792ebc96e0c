-- `of_sheets` meets its contract. The loop keeps: what is tallied, and what the rows that are left make, are all joint rules.
use mathlib.Core.Path.{◌≡◌}
use Prim.Native.Nat.{◌≤◌}
use Rattle.model.specs.Compose.{of_pairs}
use Rattle.join_pairs.specs.Sides.{sizes_of}
use Rattle.join_alike.specs.Alike.{sheets_joint, rows_left}
use Rattle.join_limits.proofs.LimitLaws.{TallyLeft}
use Rattle.join_limits.proofs.Tally.of_sheets.Given as goal

abbrev pub invariant-loop-row : goal.invariant-loop-row
invariant-loop-row l =
    (goal.iterator-loop-row).can_next l.row-iterator
    × (goal.iterator-loop-row).is_finite l.row-iterator
    × (l.tally.rules ≤ 1024)
    × (l.row-iterator.sizes ≡ l.sheets.sizes)
    × TallyLeft (of_pairs (sizes_of l.sheets.sizes)) (sheets_joint l.sheets) l.tally (rows_left l.row-iterator)
