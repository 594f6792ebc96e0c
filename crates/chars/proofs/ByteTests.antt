-- Tests of bytes, by comparisons.
use mathlib.Core.Path.{◌≡◌, refl, sym}
use mathlib.Core.Bool.{Bool, true, false, not, cond, ◌&&◌, ◌||◌}
use Prim.Native.Nat.{ℕ, ◌<◌}
use lib.Dec.{eqb, leb}
use Rattle.model.specs.Bytes.{white, class_number, is, class_of, digit_byte}
use Rattle.model.specs.Lists.{every, from, numbers}
use Rattle.model.specs.Written.{text_byte}
use Rattle.model.proofs.ListLaws.{every-∈, ∈-numbers}
use Rattle.model.proofs.Tests.{Yes}

-- two tests agree on every byte where they agree on the 256 values, which is computed
agree : Bool → Bool → Bool
agree a b = cond a b (not b)

agree_same : (a b : Bool) → Yes (agree a b) → a ≡ b
unfolding agree
agree_same true true h = refl
agree_same true false h = sym h
agree_same false true h = h
agree_same false false h = refl

same_test : (f g : ℕ → Bool) → Yes (every (λ b. agree (f b) (g b)) (numbers 256)) → (b : ℕ) → b < 256 → f b ≡ g b
same_test f g h b k = agree_same (f b) (g b) (every-∈ (λ b. agree (f b) (g b)) h b (∈-numbers 256 k))

pub white_test : (b : ℕ) → b < 256 → (((eqb b 32 || eqb b 9) || eqb b 10) || eqb b 13) ≡ is (class_of b) white
unfolding agree every from is class_of class_number
white_test = same_test (λ b. ((eqb b 32 || eqb b 9) || eqb b 10) || eqb b 13) (λ b. is (class_of b) white) refl

pub digit_test : (b : ℕ) → b < 256 → (leb 48 b && leb b 57) ≡ digit_byte b
unfolding agree every from is class_of class_number digit_byte
digit_test = same_test (λ b. leb 48 b && leb b 57) digit_byte refl

-- white, or any of 33 to 126 but &, < and >
abbrev allowed : ℕ → Bool
allowed b = (((((eqb b 9 || eqb b 10) || eqb b 13) || leb 32 b) && leb b 126) && not (eqb b 38)) && not (eqb b 60) && not (eqb b 62)

pub text_test : (b : ℕ) → b < 256 → allowed b ≡ text_byte b
unfolding agree every from is class_of class_number text_byte
text_test = same_test allowed text_byte refl
