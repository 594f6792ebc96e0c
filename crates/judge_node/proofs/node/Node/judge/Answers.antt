-- `judge` meets its contract: a text, or an element by what is inside it.
use Rattle.judge_node.proofs.InsideLaws.{text_found, tag_within, element_found, some-symbol}
use Rattle.judge_node.proofs.node.Node.judge.Goals as goal

pub tagged-requires : goal.tagged-requires
tagged-requires c = tag_within c.args.self.now c.from.ensures c.in-Tag.is c.inside-inside.ensures

pub returns-in-Text : goal.returns-in-Text
returns-in-Text c = text_found c.args.self.now c.from.ensures c.in-Text.is c.text_targets.ensures

pub returns-in-Tag : goal.returns-in-Tag
returns-in-Tag c = element_found c.args.self.now c.from.ensures c.in-Tag.is c.inside-inside.ensures c.tagged.ensures

pub returns-in-Nothing : goal.returns-in-Nothing
returns-in-Nothing c = absurd (some-symbol c.args.self.now c.from.ensures c.in-Nothing.is)
