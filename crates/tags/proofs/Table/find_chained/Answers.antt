-- `tags::Table::find_chained` meets its contract: what is left of the way finds what the whole way finds.
use borrow.Author.Rules.{rules}
use Rattle.tags.proofs.ChainLaws.{tag_told, none_told, along_past, along-from, along-end, along-here, along_stop, along-on}
use Rattle.tags.proofs.Table.find_chained.Goals as goal

pub returns-then-first-gt-MOST_NAMES : goal.returns-then-first-gt-MOST_NAMES
returns-then-first-gt-MOST_NAMES c = none_told _ (search (along_past, rules))

pub loop-tag-init : goal.loop-tag-init
loop-tag-init c = (search rules, search (along-from, rules))

pub returns-then-same_bytes : goal.returns-then-same_bytes
returns-then-same_bytes c = tag_told _ _ c.loop-tag-test.true (search (along-here, rules))

pub returns-then-tag-next : goal.returns-then-tag-next
returns-then-tag-next c = none_told _ (search (along_stop, rules))

pub loop-tag-preserved : goal.loop-tag-preserved
loop-tag-preserved c = (search rules, search (along-on, rules))

pub returns : goal.returns
returns c = none_told _ (search (along-end, rules))
