-- `spot` meets its contract: it is one number on to the next entry.
use native.Mathlib.Omega.{arith}
use Rattle.indexed.proofs.WalkLaws.{entry-there}
use Rattle.indexed.proofs.IndexedSheet.spot.Goals as goal

pub overflow_add-k : goal.overflow_add-k
overflow_add-k c = omega (arith, c.requires, entry-there c.args.self.now.indexed {k = c.args.k} (omega (arith, c.requires)))
