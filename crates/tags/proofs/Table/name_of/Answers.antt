-- `tags::Table::name_of` meets its contract.
use mathlib.Core.Path.{sym, ◌∙◌}
use native.Mathlib.Omega.{arith}
use Rattle.tags.proofs.TagLaws.{is_tag, name-there, name_none}
use Rattle.tags.proofs.Table.name_of.Goals as goal

pub returns-then-tag : goal.returns-then-tag
returns-then-tag c = sym (name_none _ _ _ c.if-tag.true)

pub overflow_sub-tag : goal.overflow_sub-tag
overflow_sub-tag c = omega (arith, is_tag c.args.tag c.if-tag.false)

pub returns : goal.returns
returns c = c.bare.ensures ∙ sym (name-there _ _ _ c.if-tag.false)
