-- `gather` meets its contract: so far the words are those of the children passed, and none of them is 0.
use mathlib.Core.Path.{◌∙◌}
use Rattle.judge_node.proofs.ChildLaws.{gather_none, gather_done, gather_zero, gather_more}
use Rattle.judge_node.proofs.children.ChildWords.gather.Goals as goal

pub loop-word-init : goal.loop-word-init
loop-word-init c =
    let e = c.into_iter-word-iterator.ensures.into_iter_gives in
    (tt, tt, rw e, rw e, rw e (gather_none _ _ _ c.requires))

pub returns-then-word-eq0 : goal.returns-then-word-eq0
returns-then-word-eq0 c = let (_, _, _, _, g) = c.loop-word.invariant in gather_zero g c.in-Some.ensures.steps.0 c.if-word-eq0.true

pub loop-word-preserved : goal.loop-word-preserved
loop-word-preserved c =
    let (_, _, nodes, end, g) = c.loop-word.invariant in
    let (first, further) = c.in-Some.ensures.steps in
    (tt, tt, further.nodes ∙ nodes, further.end ∙ end, gather_more g first c.if-word-eq0.false further.next)

pub returns : goal.returns
returns c = let (_, _, _, _, g) = c.loop-word.invariant in gather_done g c.in-None.ensures.steps.0.0
