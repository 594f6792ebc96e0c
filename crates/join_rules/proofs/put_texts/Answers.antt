-- `put_texts` meets its contract.
use Rattle.page.proofs.PageLaws.{as_words}
use Rattle.join_rules.proofs.RuleLaws.{text_states, text_words}
use Rattle.join_rules.proofs.put_texts.Goals as goal

pub joint_state-target-requires : goal.joint_state-target-requires
joint_state-target-requires c = text_states c.args.rules.now c.requires

pub returns : goal.returns
returns c = as_words (text_words c.args.rules.now c.requires c.word-kind.ensures c.joint_state-target.ensures) c.copy.ensures
