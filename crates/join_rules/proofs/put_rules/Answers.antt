-- `put_rules` meets its contract.
use Rattle.page.proofs.PageLaws.{done}
use Rattle.join_rules.proofs.RuleLaws.{few_parts, row_written, words_none}
use Rattle.join_rules.proofs.put_rules.Goals as goal

pub put_row-requires : goal.put_row-requires
put_row-requires c = let (_, _, few, _) = c.loop-row.invariant in (few_parts _ _ c.in-Some.ensures.steps.joint few).0

pub loop-row-preserved : goal.loop-row-preserved
loop-row-preserved c =
    let (_, _, few, left) = c.loop-row.invariant in
    let next = c.in-Some.ensures.steps in
    (tt, tt, (few_parts _ _ next.joint few).1, row_written next left c.put_row.ensures)

pub returns : goal.returns
returns c = let (_, _, _, left) = c.loop-row.invariant in done left (words_none _ c.in-None.ensures.steps)
