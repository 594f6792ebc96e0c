-- `Book::tag_targets` meets its contract: so far the set holds what the rules before those that are left give.
use mathlib.Core.Path.{refl}
use Rattle.judge_rules.proofs.TargetLaws.{chain_begun, chain_ended, tag_rules, target_room, target-added}
use Rattle.judge_rules.proofs.numbers.Book.tag_targets.Goals as goal

pub loop-rule-init : goal.loop-rule-init
loop-rule-init c =
    let all = c.chain-rule-items.ensures in (
      tt,
      tt,
      rw c.into_iter-rule-iterator.ensures.into_iter_gives
          (chain_begun (tag_rules c.args.inner c.requires.0) _ refl all.key all.all),
    )

pub with_target-targets-requires : goal.with_target-targets-requires
with_target-targets-requires c =
    let (_, _, g) = c.loop-rule.invariant in
    target_room (tag_rules c.args.inner c.requires.0) _ g c.in-Some.rule c.in-Some.ensures.steps

pub loop-rule-preserved : goal.loop-rule-preserved
loop-rule-preserved c =
    let (_, _, g) = c.loop-rule.invariant in
    (tt, tt, target-added (tag_rules c.args.inner c.requires.0) _ g c.in-Some.rule c.in-Some.ensures.steps c.with_target-targets.ensures)

pub returns : goal.returns
returns c = let (_, _, g) = c.loop-rule.invariant in chain_ended g c.in-None.ensures.steps
