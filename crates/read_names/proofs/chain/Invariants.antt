-- `read_names::chain` meets its contract: tag by tag.
use Rattle.tags.specs.Tables.{TableOf}
use Prim.Native.Nat.{◌-◌, ◌≤◌}
use Rattle.read_names.proofs.chain.Given as goal

abbrev pub invariant-loop-tag : goal.invariant-loop-tag
invariant-loop-tag l = TableOf l.list l.table (l.tag - 1) × (l.tag - 1 ≤ l.count)
