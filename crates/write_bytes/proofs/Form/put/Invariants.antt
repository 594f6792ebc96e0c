-- `put` meets its contract: what is left to store gives what is to be stored.
use mathlib.Core.Path.{◌≡◌}
use Prim.Native.Nat.{◌+◌}
use lib.ListN.{drop}
use Rattle.write_bytes.specs.Put.{stored}
use Rattle.write_bytes.proofs.Form.put.Given as goal

abbrev pub invariant-loop-i : goal.invariant-loop-i
invariant-loop-i l = stored l.out (l.at + l.i) (drop l.i l.bytes) ≡ stored l.initial.out l.at l.bytes
