-- `checked_remainder` meets its contract.
use mathlib.Core.Path.{◌≡◌, ◌∙◌}
use Prim.Native.Nat.{◌^◌, ◌<◌}
use lib.IntN.{ℤ, pos}
use lib.Signed.{mag}
use mir.Syntax.{w32, w64}
use borrow.Author.Tests.{ne_eqb}
use Rattle.std.proofs.lemmas.Int.{to_z-of_z}
use Rattle.model.specs.Words.{remainder_of}
use Rattle.bits.proofs.SignedLaws.{rest_is}
use Rattle.bits.proofs.checked_remainder.Goals as goal

pub returns : goal.returns
returns c =
    let back = λ (z : ℤ) (f : mag z < 2 ^ 63). to_z-of_z w64 z (record { sfits = f }) in
    let value : c.rem_euclid.result ≡ pos (remainder_of c.args.z c.args.m) =
    c.rem_euclid.ensures.value ∙ rw (
      back _ c.from.type_inv,
      back _ c.from-2.type_inv,
      c.from.ensures,
      c.from-2.ensures,
      to_z-of_z w32 _ c.ranges.z,
    ) (rest_is _ _) in
    rw (back _ c.rem_euclid.type_inv, value, ne_eqb _ 0 c.if-m-eq0.false)
