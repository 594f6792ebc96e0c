-- `tags::Table::find_chained` meets its contract: what is left of the way finds what the whole way finds.
use mathlib.Core.Path.{◌≡◌}
use Prim.Native.Nat.{◌≤◌}
use Rattle.tags.specs.Tables.{along}
use Rattle.tags.proofs.Table.find_chained.Given as goal

abbrev pub invariant-loop-tag : goal.invariant-loop-tag
invariant-loop-tag l = (l.tag ≤ 64) × (along l.list l.self l.name 64 l.first ≡ along l.list l.self l.name l.tag l.tag)

abbrev pub decreases-loop-tag : goal.decreases-loop-tag
decreases-loop-tag l = l.tag
