-- `of_sheets` meets its contract. The loop keeps: what is tallied, and what the rows that are left make, are all joint rules.
use mathlib.Core.Path.{sym, ◌∙◌}
use native.Mathlib.Omega.{arith}
use Rattle.join_limits.proofs.LimitLaws.{row-few, row_more, tally_done, limit_many, limit_few}
use Rattle.join_limits.proofs.Tally.of_sheets.Goals as goal

pub with-tally-requires : goal.with-tally-requires
with-tally-requires c =
    let (_, _, few, _, _) = c.loop-row.invariant in omega (arith, c.of_row.ensures.rules, row-few c.in-Some.row)

pub returns-then-tally-gt-MOST_RULES : goal.returns-then-tally-gt-MOST_RULES
returns-then-tally-gt-MOST_RULES c =
    let (_, _, _, same, left) = c.loop-row.invariant in
    let more = c.with-tally.ensures in
    let rest
    = row_more c.args.sheets.now same c.in-Some.ensures.steps left c.of_row.ensures {u = c.with-tally.result} more.rules more.over
    more.words in
    limit_many _ (omega (arith, rest.rules, c.if-tally-gt-MOST_RULES.true))

pub loop-row-preserved : goal.loop-row-preserved
loop-row-preserved c =
    let (_, _, _, same, left) = c.loop-row.invariant in
    let next = c.in-Some.ensures.steps in
    let more = c.with-tally.ensures in
    let rest = row_more c.args.sheets.now same next left c.of_row.ensures more.rules more.over more.words in
    (tt, tt, c.if-tally-gt-MOST_RULES.false, next.same_sizes ∙ same, rest)

pub returns-in-Some-over : goal.returns-in-Some-over
returns-in-Some-over c =
    let (_, _, few, _, left) = c.loop-row.invariant in
    let done = tally_done left c.in-None.ensures.steps in
    limit_few _ (omega (arith, done.rules)) ∙ sym done.over ∙ c.in-Some-over.is

pub returns-in-None-over : goal.returns-in-None-over
returns-in-None-over c =
    let (_, _, few, _, left) = c.loop-row.invariant in
    let done = tally_done left c.in-None.ensures.steps in
    record { none = limit_few _ (omega (arith, done.rules)) ∙ sym done.over ∙ c.in-None-over.is; tally = done }
