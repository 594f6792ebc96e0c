-- `Book::text_targets` meets its contract: so far the set holds what the rules before those that are left give.
use Rattle.model.specs.Run.{text_targets}
use Rattle.judge_rules.proofs.TargetLaws.{chain_begun, chain_ended, text_rules, target_room, target-added}
use Rattle.judge_rules.proofs.numbers.Book.text_targets.Goals as goal

pub loop-rule-init : goal.loop-rule-init
loop-rule-init c =
    let all = c.chain-rule-items.ensures in (
      tt,
      tt,
      rw c.into_iter-rule-iterator.ensures.into_iter_gives
          (chain_begun (text_rules c.args.kind) _ c.text_key.ensures all.key all.all),
    )

-- the target of the rule in hand is in the sheet
pub bounds-rule-rule : goal.bounds-rule-rule
bounds-rule-rule c =
    let (_, _, g) = c.loop-rule.invariant in target_room (text_rules c.args.kind) _ g c.in-Some.rule c.in-Some.ensures.steps

pub loop-rule-preserved : goal.loop-rule-preserved
loop-rule-preserved c =
    let (_, _, g) = c.loop-rule.invariant in
    (tt, tt, target-added (text_rules c.args.kind) _ g c.in-Some.rule c.in-Some.ensures.steps c.with_if-targets.ensures)

pub returns : goal.returns
unfolding text_targets
returns c = let (_, _, g) = c.loop-rule.invariant in chain_ended g c.in-None.ensures.steps
