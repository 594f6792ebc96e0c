-- `offsets::same_bytes` meets its contract: the lists are the same where they are from i on.
use mathlib.Core.Path.{◌≡◌}
use lib.ListN.{drop}
use Rattle.model.specs.Bytes.{same_bytes}
use Rattle.offsets.proofs.same_bytes.Given as goal

abbrev pub invariant-loop-i : goal.invariant-loop-i
invariant-loop-i l = same_bytes l.a l.b ≡ same_bytes (drop l.i l.a) (drop l.i l.b)
