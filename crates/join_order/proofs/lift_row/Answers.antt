-- `lift_row` meets its contract.
use Rattle.model.specs.Sheet.{arc_word}
use Rattle.model.proofs.ListLaws.{from_next}
use Rattle.page.proofs.PageLaws.{begun, more, done, from_start, from_none, row_like, row_next, row_none}
use borrow.Author.Rules.{rules}
use Rattle.join_order.proofs.lift_row.Goals as goal

pub loop-other-init : goal.loop-other-init
loop-other-init c = begun (row_like _ _ (from_start c.other-other-end.ensures))

pub loop-other-preserved : goal.loop-other-preserved
unfolding arc_word
loop-other-preserved c =
    let (leaves, reads, enters) = c.from-arc.ensures in
    more c.loop-other.invariant
    (row_next _ _ (from_next _ _ c.loop-other-test.true)
    (rw (c.arc_word.ensures, c.beside-reads.ensures.0, leaves, reads, enters)))
    c.put.ensures

pub returns : goal.returns
returns c = search (done, row_none, from_none, rules)
