-- `gather` meets its contract: so far the words are those of the children passed, and none of them is 0.
use Rattle.std.specs.Prelude.{◌≡◌, length}
use Rattle.judge_node.specs.ChildWords.{words_of}
use Rattle.judge_node.proofs.ChildLaws.{Gathering}
use Rattle.judge_node.proofs.children.ChildWords.gather.Given as goal

abbrev pub invariant-loop-word : goal.invariant-loop-word
invariant-loop-word l =
    (goal.iterator-loop-word).can_next l.word-iterator
    × (goal.iterator-loop-word).is_finite l.word-iterator
    × (l.word-iterator.nodes ≡ l.fn.self.nodes)
    × (l.word-iterator.end ≡ l.fn.self.end)
    × Gathering (words_of l.fn.self) (words_of l.word-iterator) (length l.initial.words) l.words l.n l.word-iterator.next
