-- `put_row` meets its contract.
use Rattle.page.proofs.PageLaws.{done}
use Rattle.join_rules.proofs.RuleLaws.{few_parts, pair_written, words_none}
use Rattle.join_rules.proofs.put_row.Goals as goal

pub put_pair-requires : goal.put_pair-requires
put_pair-requires c = let (_, _, few, _) = c.loop-rules.invariant in (few_parts _ _ c.in-Some.ensures.steps.joint few).0

pub loop-rules-preserved : goal.loop-rules-preserved
loop-rules-preserved c =
    let (_, _, few, left) = c.loop-rules.invariant in
    let next = c.in-Some.ensures.steps in
    (tt, tt, (few_parts _ _ next.joint few).1, pair_written next left c.put_pair.ensures)

pub returns : goal.returns
returns c = let (_, _, _, left) = c.loop-rules.invariant in done left (words_none _ c.in-None.ensures.steps)
