-- `try_all` meets its contract: the chain has all rules of content.
use native.Mathlib.Omega.{arith}
use Rattle.judge_contents.proofs.ContentLaws.{trying_begun, trying_few, next_sheet, next_key, trying_more, trying_ended}
use Rattle.judge_contents.proofs.Element.try_all.Goals as goal

pub loop-rule-init : goal.loop-rule-init
loop-rule-init c =
    let all = c.chain-rule-items.ensures in
    (tt, tt, rw c.into_iter-rule-iterator.ensures.into_iter_gives (trying_begun all.sheet all.key all.all))

pub try_rule-tried-requires-clause-sheet : goal.try_rule-tried-requires-clause-sheet
try_rule-tried-requires-clause-sheet c = next_sheet c.loop-rule.invariant.2 c.in-Some.rule c.in-Some.ensures.steps

pub try_rule-tried-requires-clause-content : goal.try_rule-tried-requires-clause-content
try_rule-tried-requires-clause-content c = next_key c.loop-rule.invariant.2 c.in-Some.rule c.in-Some.ensures.steps

pub overflow_add-looks-in-loop-rule : goal.overflow_add-looks-in-loop-rule
overflow_add-looks-in-loop-rule c = omega (arith, trying_few c.loop-rule.invariant.2, c.try_rule-tried.ensures.few)

pub loop-rule-preserved : goal.loop-rule-preserved
loop-rule-preserved c =
    let target = c.target_state.ensures in (
      tt,
      tt,
      trying_more c.loop-rule.invariant.2 c.in-Some.rule c.in-Some.ensures.steps c.try_rule-tried.ensures target.is target.few
          c.with_if-targets.ensures,
    )

pub returns : goal.returns
returns c = trying_ended c.loop-rule.invariant.2 c.in-None.ensures.steps
