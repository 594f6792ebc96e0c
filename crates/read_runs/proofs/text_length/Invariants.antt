-- `read_runs::text_length` meets its contract: the first bytes, so many as are known, are a text's, and the blocks that are left follow.
use mathlib.Core.Path.{◌≡◌}
use Prim.Native.Nat.{◌+◌, ◌≤◌}
use lib.ListN.{length, drop}
use Rattle.model.specs.Written.{text_byte}
use Rattle.read_runs.specs.Runs.{run}
use Rattle.read_runs.proofs.text_length.Given as goal

abbrev pub invariant-loop-block : goal.invariant-loop-block
invariant-loop-block l = (l.known ≤ length l.bytes) × (l.known + run text_byte (drop l.known l.bytes) ≡ run text_byte l.bytes) ×
    (l.block-iterator.rest.now ≡ drop l.known l.bytes) × (l.block-iterator.size ≡ 16)
