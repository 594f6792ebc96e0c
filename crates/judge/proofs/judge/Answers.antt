-- `judge` meets its contract: each answer is that of the checks on the way, in their order.
use mathlib.Core.Path.{sym}
use lib.Seq.{length-take-le}
use Rattle.std.proofs.lemmas.Result.{err_from_is_err_and}
use Rattle.model.specs.Answers.{said_judgement, said_refusal}
use Rattle.judge.proofs.JudgeLaws.{sheet-refused, sheet-indexed, tree_refused, tree_counted, room-refused, front-form, nodes_judged}
use Rattle.judge.proofs.judge.Goals as goal

pub returns-in-Err : goal.returns-in-Err
unfolding said_judgement
returns-in-Err c =
    let (answer, (states, bound)) = sheet-refused _ _ _ c.index.ensures.answer c.in-Err.is in
    record { answer = answer; states = states; bound = bound }

pub returns-in_err-n : goal.returns-in_err-n
unfolding said_judgement
returns-in_err-n c =
    let h = sheet-indexed _ _ c.index.ensures.answer c.index.ensures.index c.in_default.is in
    let p = err_from_is_err_and c.from_residual.result c.from_residual.ensures.1 in
    let (answer, (states, bound)) = tree_refused _ _ _ h c.at.ensures c.check.ensures c.in_err-n.was in
    rw (p.1, p.2) (record { answer = answer; states = states; bound = bound })

pub returns-then-states-n : goal.returns-then-states-n
unfolding said_judgement said_refusal
returns-then-states-n c =
    let h = sheet-indexed _ _ c.index.ensures.answer c.index.ensures.index c.in_default.is in
    let form = tree_counted _ h c.at.ensures c.check.ensures c.in_ok-n.was in
    let (answer, (states, bound)) = room-refused _ _ _ h form c.if-states-n.true in
    record { answer = answer; states = states; bound = bound }

pub slice_bounds-judge_nodes-end-2 : goal.slice_bounds-judge_nodes-end-2
slice_bounds-judge_nodes-end-2 c = sym (length-take-le _ _ c.if-states-n.false)

pub invariant_of-indexed : goal.invariant_of-indexed
invariant_of-indexed c = record { indexed = sheet-indexed _ _ c.index.ensures.answer c.index.ensures.index c.in_default.is }

pub judge_nodes-requires : goal.judge_nodes-requires
judge_nodes-requires c =
    let h = sheet-indexed _ _ c.index.ensures.answer c.index.ensures.index c.in_default.is in
    front-form _ (tree_counted _ h c.at.ensures c.check.ensures c.in_ok-n.was) c.if-states-n.false

pub returns : goal.returns
unfolding said_judgement said_refusal
returns c =
    let h = sheet-indexed _ _ c.index.ensures.answer c.index.ensures.index c.in_default.is in
    let form = tree_counted _ h c.at.ensures c.check.ensures c.in_ok-n.was in
    let judged = c.judge_nodes.ensures in
    let (answer, (states, bound)) = nodes_judged _ _ _ h form c.if-states-n.false judged.answer judged.states in
    record { answer = answer; states = states; bound = bound }
