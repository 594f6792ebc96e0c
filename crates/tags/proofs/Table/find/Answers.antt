-- `tags::Table::find` meets its contract.
use mathlib.Core.Path.{◌∙◌}
use Rattle.tags.proofs.Table.find.Goals as goal

pub returns : goal.returns
returns c = c.find_chained.ensures ∙ rw c.bucket.ensures.is
