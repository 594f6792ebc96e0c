-- `put_tags` meets its contract.
use Rattle.page.proofs.PageLaws.{as_words}
use Rattle.join_rules.proofs.RuleLaws.{tag_states, tag_words}
use Rattle.join_rules.proofs.put_tags.Goals as goal

pub joint_state-inner-requires : goal.joint_state-inner-requires
joint_state-inner-requires c = (tag_states c.args.rules.now c.requires).0

pub joint_state-target-requires : goal.joint_state-target-requires
joint_state-target-requires c = (tag_states c.args.rules.now c.requires).1

pub returns : goal.returns
returns c =
    as_words
    (tag_words c.args.rules.now c.requires c.word-tag.ensures c.joint_state-inner.ensures c.joint_state-target.ensures)
    c.copy.ensures
