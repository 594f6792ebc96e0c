-- `tags::Table::link` meets its contract.
use mathlib.Core.Path.{sym}
use Rattle.tags.proofs.TableLaws.{unlinked, is-linked}
use Rattle.tags.proofs.Table.link.Goals as goal

pub returns-then-chain-tag : goal.returns-then-chain-tag
returns-then-chain-tag c = sym (unlinked _ _ _ c.if-chain-tag.true)

pub returns : goal.returns
returns c = sym (is-linked _ _ _ c.if-chain-tag.false)
