-- The loop of `put_row` keeps: what is written, and the words of the pairs that are left, are those of the whole row.
use Rattle.page.proofs.PageLaws.{Left}
use Rattle.join_alike.specs.Alike.{joint_left, FewPositions}
use Rattle.join_rules.specs.Written.{row_words, words_left}
use Rattle.join_rules.proofs.put_row.Given as goal

abbrev pub invariant-loop-rules : goal.invariant-loop-rules
invariant-loop-rules l =
    (goal.iterator-loop-rules).can_next l.rules-iterator
    × (goal.iterator-loop-rules).is_finite l.rules-iterator
    × FewPositions (joint_left l.rules-iterator)
    × Left l.initial.page (row_words l.fn.row) l.page (words_left l.rules-iterator)
