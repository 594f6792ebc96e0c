-- `sheet::from_file` meets its contract.
use Rattle.model.specs.Answers.{said_refusal, said}
use mathlib.Core.Path.{◌≡◌}
use native.Mathlib.Omega.{arith}
use Rattle.std.proofs.lemmas.Result.{err_from_is_err_and}
use Rattle.sheet.proofs.Answers.{answers_refusal, answers_over, answers_short, answers_count}
use Rattle.sheet.proofs.from_file.Goals as goal

pub returns-in_err-check : goal.returns-in_err-check
unfolding said said_refusal
returns-in_err-check c =
    let front = c.put_words-n.ensures in
    let (answer, buffer) = answers_refusal _ c.args.sheet.now _ front.count front.words c.check.ensures c.in_err-check.was in
    let p = err_from_is_err_and c.from_residual.result c.from_residual.ensures.1 in
    record { answer = rw (p.1, p.2) answer; buffer = buffer }

pub returns-then-n-bytes : goal.returns-then-n-bytes
unfolding said said_refusal
returns-then-n-bytes c =
    let front = c.put_words-n.ensures in
    let (answer, buffer) = answers_over _ _ _ front.count front.words c.check.ensures c.in_ok-check.was c.if-n-bytes.true in
    record { answer = answer; buffer = buffer }

pub returns-then-sheet-n : goal.returns-then-sheet-n
unfolding said said_refusal
returns-then-sheet-n c =
    let front = c.put_words-n.ensures in
    let (answer, buffer) =
    answers_short _ c.args.sheet.now _ front.count front.words c.check.ensures c.in_ok-check.was c.if-n-bytes.false c.if-sheet-n.true in
    record { answer = answer; buffer = buffer }

pub returns : goal.returns
unfolding said said_refusal
returns c =
    let front = c.put_words-n.ensures in
    let e : c.put_words.result ≡ c.put_words-n.result = omega (arith, c.put_words.ensures.count, front.count) in
    let (answer, buffer) =
    answers_count _ c.args.sheet.now _ front.count front.words c.check.ensures c.in_ok-check.was c.if-n-bytes.false c.if-sheet-n.false
    (rw e at c.put_words.ensures.words) in
    record { answer = rw e answer; buffer = buffer }
