-- `entry` meets its contract: the index has an entry for each rule, and one more.
use native.Mathlib.Omega.{arith}
use Rattle.indexed.proofs.WalkLaws.{entry-there}
use Rattle.indexed.proofs.IndexedSheet.entry.Goals as goal

pub overflow_add-k : goal.overflow_add-k
overflow_add-k c = omega (arith, entry-there c.args.self.now.indexed c.requires)

pub offset_bounds-self-k : goal.offset_bounds-self-k
offset_bounds-self-k c = omega (arith, entry-there c.args.self.now.indexed c.requires)

pub bounds-self-k : goal.bounds-self-k
bounds-self-k c = (entry-there c.args.self.now.indexed c.requires).0
