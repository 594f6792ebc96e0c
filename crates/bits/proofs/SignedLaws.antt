-- Two's complement words and remainders, as the machine finds them.
use mathlib.Core.Path.{◌≡◌, refl, ap}
use mathlib.Core.Bool.{cond}
use Prim.Native.Nat.{ℕ, suc, ◌-◌, ◌^◌}
use native.Mathlib.Omega.{arith}
use lib.Dec.{ltb}
use lib.IntN.{ℤ, pos, negsuc}
use mir.Syntax.{w32}
use mir.Val.{to_z}
use Rattle.std.specs.Int.{int_rem_euclid}
use Rattle.model.specs.Sheet.{W, signed}
use Rattle.model.specs.Words.{remainder_of}

pub signed-word : (w : ℕ) → to_z w32 w ≡ signed w
unfolding signed
signed-word w = let rest : W - suc w ≡ W - 1 - w = omega arith in ap (λ (n : ℕ). cond (ltb w (2 ^ 31)) (pos w) (negsuc n)) rest

pub rest_is : (z : ℤ) (m : ℕ) → int_rem_euclid z (pos m) ≡ pos (remainder_of z m)
unfolding remainder_of
rest_is (pos n) m = refl
rest_is (negsuc n) m = refl
