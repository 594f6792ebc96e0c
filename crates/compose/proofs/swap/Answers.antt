-- `swap` meets its contract.
use Rattle.model.specs.Answers.{said, said_refusal}
use Rattle.std.proofs.lemmas.Result.{err_from_is_err_and}
use Rattle.compose.proofs.AnswerLaws.{swap-refused, sheet-counts, swap-short, swap-written}
use Rattle.compose.proofs.swap.Goals as goal

pub returns-in_err-n : goal.returns-in_err-n
unfolding said said_refusal
returns-in_err-n c =
    let (answer, out) = swap-refused _ c.args.out.now c.check.ensures c.in_err-n.was in
    let p = err_from_is_err_and c.from_residual.result c.from_residual.ensures.1 in
    record { answer = rw (p.1, p.2) answer; out = out }

pub returns-then-out-n : goal.returns-then-out-n
unfolding said said_refusal
returns-then-out-n c =
    let (answer, out) = swap-short _ c.args.out.now c.check.ensures c.in_ok-n.was c.if-out-n.true in
    record { answer = answer; out = out }

pub put_swapped-requires : goal.put_swapped-requires
put_swapped-requires c = (sheet-counts _ c.check.ensures c.in_ok-n.was).0

pub returns : goal.returns
unfolding said said_refusal
returns c =
    let (answer, out) = swap-written _ c.args.out.now c.check.ensures c.in_ok-n.was c.if-out-n.false c.put_swapped.ensures in
    record { answer = answer; out = out }
