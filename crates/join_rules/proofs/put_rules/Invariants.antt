-- The loop of `put_rules` keeps: what is written, and the words of the rows that are left, are those of all joint rules.
use Rattle.page.proofs.PageLaws.{Left}
use Rattle.join_alike.specs.Alike.{rows_left, FewPositions}
use Rattle.join_rules.specs.Written.{joint_words, rows_words_left}
use Rattle.join_rules.proofs.put_rules.Given as goal

abbrev pub invariant-loop-row : goal.invariant-loop-row
invariant-loop-row l =
    (goal.iterator-loop-row).can_next l.row-iterator
    × (goal.iterator-loop-row).is_finite l.row-iterator
    × FewPositions (rows_left l.row-iterator)
    × Left l.initial.page (joint_words l.fn.sheets) l.page (rows_words_left l.row-iterator)
