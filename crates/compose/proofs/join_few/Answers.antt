-- `join_few` meets its contract: the limits of rules, then that of words, then the room for these.
use native.Mathlib.Omega.{arith}
use Rattle.std.proofs.lemmas.Result.{err_from_is_err_and}
use Rattle.model.specs.Answers.{said, said_refusal}
use Rattle.compose.proofs.LimitChecks.{within-here, over-here, rules-over, few_rules, within_limits_of_rules, words-over, words-short}
use Rattle.compose.proofs.LimitChecks.{words_fit}
use Rattle.compose.proofs.join_few.Goals as goal

pub returns-in_err-tally : goal.returns-in_err-tally
unfolding said said_refusal
returns-in_err-tally c =
    let p = err_from_is_err_and c.from_residual.result c.from_residual.ensures.1 in
    rw (p.1, p.2) (rules-over c.args.sheets.now (over-here _ _ c.of_sheets.ensures c.in_err-tally.was) c.args.out.now)

pub overflow_add-needed : goal.overflow_add-needed
overflow_add-needed c = omega (arith, few_rules c.args.sheets.now (within-here c.of_sheets.ensures c.in_ok-tally.was))

pub returns-then-needed-gt-MOST_WORDS : goal.returns-then-needed-gt-MOST_WORDS
unfolding said said_refusal
returns-then-needed-gt-MOST_WORDS c =
    rw c.from.ensures
    (words-over c.args.sheets.now (within-here c.of_sheets.ensures c.in_ok-tally.was) c.args.out.now c.if-needed-gt-MOST_WORDS.true)

pub returns-then-out-needed : goal.returns-then-out-needed
unfolding said said_refusal
returns-then-out-needed c =
    words-short c.args.sheets.now (within-here c.of_sheets.ensures c.in_ok-tally.was) c.args.out.now c.if-needed-gt-MOST_WORDS.false
    c.if-out-needed.true

pub overflow_cast-tally : goal.overflow_cast-tally
overflow_cast-tally c = omega (arith, few_rules c.args.sheets.now (within-here c.of_sheets.ensures c.in_ok-tally.was))

pub put_joint-requires : goal.put_joint-requires
put_joint-requires c = within_limits_of_rules c.args.sheets.now (within-here c.of_sheets.ensures c.in_ok-tally.was)

pub returns : goal.returns
unfolding said said_refusal
returns c =
    words_fit c.args.sheets.now (within-here c.of_sheets.ensures c.in_ok-tally.was) c.args.out.now c.if-needed-gt-MOST_WORDS.false
    c.if-out-needed.false c.put_joint.ensures
