-- `pair_arc` meets its contract.
use Rattle.model.specs.Sheet.{arc_word}
use Rattle.join_order.proofs.pair_arc.Goals as goal

pub returns : goal.returns
unfolding arc_word
returns c =
    let (leaves, reads, enters) = c.from-a.ensures in
    let (leaves2, reads2, enters2) = c.from-b.ensures in
    rw (c.arc_word.ensures, c.pair.ensures.0, c.pair-2.ensures.0, c.pair-3.ensures.0)
    (rw (leaves, leaves2, reads, reads2, enters, enters2))
