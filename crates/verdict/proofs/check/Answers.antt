-- `check` meets its contract: each answer is that of the checks on the way, and the file's sheet stands at the front of its array.
use mathlib.Core.Path.{sym}
use native.Mathlib.Omega.{arith}
use lib.Seq.{length-take-le}
use Rattle.std.proofs.lemmas.Result.{err_from_is_err_and}
use Rattle.model.specs.Answers.{said_judgement}
use Rattle.model.proofs.Answered.{names-counted}
use Rattle.verdict.proofs.VerdictLaws.{names-refused, sheet-refused, sheet-counted}
use Rattle.verdict.proofs.check.Goals as goal

pub returns-in_err-names : goal.returns-in_err-names
unfolding said_judgement
returns-in_err-names c =
    let p = err_from_is_err_and c.from_residual.result c.from_residual.ensures.1 in
    rw (p.1, p.2) (names-refused _ _ _ c.check.ensures c.in_err-names.was)

pub returns-in_err-n : goal.returns-in_err-n
unfolding said_judgement
returns-in_err-n c =
    let names = names-counted _ c.check.ensures c.in_ok-names.was in
    let p = err_from_is_err_and c.from_residual-in_err-n.result c.from_residual-in_err-n.ensures.1 in
    rw (p.1, p.2) (sheet-refused _ _ _ names _ (omega arith) c.from_file.ensures.answer c.in_err-n.was)

pub slice_bounds-sheet-end : goal.slice_bounds-sheet-end
slice_bounds-sheet-end c = omega (arith, (sheet-counted _ _ (c.from_file.ensures.answer, c.from_file.ensures.buffer) c.in_ok-n.was).few)

pub slice_bounds-judge_form-end : goal.slice_bounds-judge_form-end
slice_bounds-judge_form-end c = sym (length-take-le _ _ (omega (
  arith,
  (sheet-counted _ _ (c.from_file.ensures.answer, c.from_file.ensures.buffer) c.in_ok-n.was).few,
)))

pub judge_form-requires-clause-names : goal.judge_form-requires-clause-names
judge_form-requires-clause-names c = names-counted _ c.check.ensures c.in_ok-names.was

pub judge_form-requires-clause-sheet : goal.judge_form-requires-clause-sheet
judge_form-requires-clause-sheet c = (sheet-counted _ _ (c.from_file.ensures.answer, c.from_file.ensures.buffer) c.in_ok-n.was).passes_there

pub returns : goal.returns
returns c = c.judge_form.ensures _ (sym (sheet-counted _ _ (c.from_file.ensures.answer, c.from_file.ensures.buffer) c.in_ok-n.was).front)
