-- The bytes of a text in its source.
use mathlib.Core.Path.{◌≡◌}
use mathlib.Core.List.{List}
use Prim.Native.Nat.{ℕ, ◌+◌, ◌-◌, ◌≤◌}
use native.Mathlib.Omega.{arith}
use borrow.Author.Tests.{leb-true}
use lib.Dec.{leb}
use lib.ListN.{length, take, drop, length-drop}
use lib.Seq.{length-take-le}
use Rattle.model.specs.Tree.{Span}
use Rattle.model.specs.Written.{source_bytes, good_text}
use Rattle.model.proofs.Tests.{Yes, and_left}

module _ (source : List ℕ) (w : Span) where
  pub source_part : take (w.start + w.bytes - w.start) (drop w.start source) ≡ source_bytes source w
  unfolding source_bytes
  source_part = let n : w.start + w.bytes - w.start ≡ w.bytes = omega arith in rw n

  pub source_length : w.start + w.bytes ≤ length source → length (source_bytes source w) ≡ w.bytes
  unfolding source_bytes
  source_length h = length-take-le w.bytes (drop w.start source) (rw length-drop (omega arith))

  pub good-within : (k : ℕ) → Yes (good_text source k w) → w.start + w.bytes ≤ length source
  unfolding good_text
  good-within k h = leb-true _ _ (and_left (leb (w.start + w.bytes) (length source)) _ h)
