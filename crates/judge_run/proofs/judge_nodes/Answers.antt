-- `judge_run::judge_nodes` meets its contract: by the run's outcome, two states at a node or the verdict.
use native.Mathlib.Omega.{arith}
use Rattle.std.proofs.lemmas.Result.{err_from_is_err_and}
use Rattle.model.specs.Answers.{said_judgement}
use Rattle.judge_run.proofs.RunLaws.{form-shaped, form-some, looks_fit, all_said, two_said}
use Rattle.judge_run.proofs.judge_nodes.Goals as goal

pub run-requires : goal.run-requires
run-requires c = form-shaped c.args.sheet.now c.requires

pub overflow_cast-looks : goal.overflow_cast-looks
overflow_cast-looks c = looks_fit c.args.sheet.now c.requires _ _ c.run.ensures c.in_ok-looks.was

pub verdict-requires : goal.verdict-requires
verdict-requires c = record { sheet = c.args.sheet.now.indexed.sheet; nodes = omega (arith, form-some c.requires) }

pub returns-in_err-looks : goal.returns-in_err-looks
unfolding said_judgement
returns-in_err-looks c =
    let p = err_from_is_err_and c.from_residual.result c.from_residual.ensures.1 in
    let (answer, states) = two_said _ _ _ _ c.run.ensures c.in_err-looks.was in
    rw (p.1, p.2) (record { answer = answer; states = states })

pub returns : goal.returns
unfolding said_judgement
returns c =
    let (answer, states) = all_said _ _ _ _ c.run.ensures c.in_ok-looks.was c.verdict.ensures in
    record { answer = answer; states = states }
