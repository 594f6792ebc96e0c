-- Bits of a number: those of its half, of 0, of a power of 2, and what the machine's shifts, ands and ors make of them.
use mathlib.Core.Path.{◌≡◌, refl, sym, ap, ◌∙◌}
use mathlib.Core.Bool.{Bool, true, false, cond, ◌&&◌, ◌||◌, or-false}
use Prim.Native.Nat.{ℕ, zero, suc, ◌*◌, ◌/◌, ◌%◌, ◌^◌, ◌≤◌, ◌<◌}
use native.Mathlib.Nat.{zero-div, mod-lt, div-one, pow-suc, mul-div_cancel, mul-mod_left, lt_of_lt_of_le, div-eq_of_lt}
use native.Mathlib.Numerals.{one-add}
use native.Mathlib.Omega.{arith}
use lib.Arith.{bin_ind}
use lib.Bits.{bit_and, bit_or, or_shr, or_mod, or_lt, and_shr, and_mod, and_mask}
use lib.Dec.{eqb, ltb, eqb-zero-suc, eqb-suc-zero, eqb-suc-suc, lit<}
use lib.Pow.{shr-shr, pow_mono, pow-lt}
use borrow.Author.Tests.{ltb-true, ltb-false}
use Rattle.model.specs.Sheet.{bit, mask}
use Rattle.std.proofs.lemmas.Nat.{one_shl}
use Rattle.model.proofs.Tests.{Yes, eqb_yes, eqb-false, Told, yea, nay, told}
use Rattle.model.proofs.SetWords.{has-members, mask-members}

-- ---- one bit

-- the lowest bit is the remainder by 2, the others are the bits of the half
pub bit-first : (n : ℕ) → bit n 0 ≡ eqb (n % 2) 1
unfolding bit
bit-first n = ap (λ (x : ℕ). eqb (x % 2) 1) (div-one n)

pub bit-suc : (n i : ℕ) → bit n (suc i) ≡ bit (n / 2) i
unfolding bit
bit-suc n i = ap (λ (x : ℕ). eqb (n / 2 ^ x % 2) 1) (sym (one-add i)) ∙ ap (λ (x : ℕ). eqb (x % 2) 1) (sym (shr-shr n 1 i))

pub bit_none : (i : ℕ) → bit 0 i ≡ false
unfolding bit
bit_none i = ap (λ (x : ℕ). eqb (x % 2) 1) (zero-div (2 ^ i))

-- a number below 2 ^ k has no bit from k on
pub bit-above : {n : ℕ} (k i : ℕ) → n < 2 ^ k → k ≤ i → bit n i ≡ false
unfolding bit
bit-above {n} k i h l = ap (λ (x : ℕ). eqb (x % 2) 1) (div-eq_of_lt (lt_of_lt_of_le h (pow_mono l)))

-- a number other than 0 has a bit
pub some-bit : (n : ℕ) → 0 < n → (i : ℕ) × Yes (bit n i)
some-bit = bin_ind (λ (n : ℕ). 0 < n → (i : ℕ) × Yes (bit n i)) (λ h. absurd (omega arith)) (λ n half h. go n half h (n % 2) refl)
  where
    go : (n : ℕ) → (0 < n / 2 → (i : ℕ) × Yes (bit (n / 2) i)) → 0 < n → (d : ℕ) → n % 2 ≡ d → (i : ℕ) × Yes (bit n i)
    go n half h zero e = let (i, y) = half (omega arith) in (suc i, bit-suc n i ∙ y)
    go n half h (suc d) e = let odd : n % 2 ≡ 1 = omega arith in (0, bit-first n ∙ eqb_yes odd)

-- ---- the machine's operations

-- an operation that goes bit by bit, by what it does to one bit
module _ (op : ℕ → ℕ → ℕ) (test : Bool → Bool → Bool) (none : eqb (op 0 0) 1 ≡ test false false) (right : eqb (op 0 1) 1 ≡ test false true)
    (left : eqb (op 1 0) 1 ≡ test true false) (both : eqb (op 1 1) 1 ≡ test true true)
    (shifted : (a b k : ℕ) → op a b / 2 ^ k ≡ op (a / 2 ^ k) (b / 2 ^ k))
    (lowest : (a b k : ℕ) → op a b % 2 ^ k ≡ op (a % 2 ^ k) (b % 2 ^ k)) where
  op_digit : (a b : ℕ) → a < 2 → b < 2 → eqb (op a b) 1 ≡ test (eqb a 1) (eqb b 1)
  op_digit zero zero h k = none
  op_digit zero (suc zero) h k = right
  op_digit (suc zero) zero h k = left
  op_digit (suc zero) (suc zero) h k = both
  op_digit zero (suc (suc b)) h k = absurd (omega arith)
  op_digit (suc zero) (suc (suc b)) h k = absurd (omega arith)
  op_digit (suc (suc a)) b h k = absurd (omega arith)

  bit_op : (a b i : ℕ) → bit (op a b) i ≡ test (bit a i) (bit b i)
  unfolding bit
  bit_op a b i =
      ap (λ (x : ℕ). eqb (x % 2) 1) (shifted a b i) ∙ ap (λ (x : ℕ). eqb x 1) (lowest (a / 2 ^ i) (b / 2 ^ i) 1)
      ∙ op_digit (a / 2 ^ i % 2) (b / 2 ^ i % 2) (mod-lt _ (lit< tt)) (mod-lt _ (lit< tt))

pub bit-or : (a b i : ℕ) → bit (bit_or a b) i ≡ (bit a i || bit b i)
bit-or = bit_op bit_or ◌||◌ refl refl refl refl or_shr or_mod

pub bit-and : (a b i : ℕ) → bit (bit_and a b) i ≡ (bit a i && bit b i)
bit-and = bit_op bit_and ◌&&◌ refl refl refl refl and_shr and_mod

pub bit_power : (q i : ℕ) → bit (2 ^ q) i ≡ eqb i q
unfolding bit
bit_power zero zero = refl
bit_power zero (suc i) = bit-suc 1 i ∙ bit_none i ∙ sym (eqb-suc-zero i)
bit_power (suc q) zero = bit-first (2 ^ suc q) ∙ ap (λ (x : ℕ). eqb (x % 2) 1) (pow-suc 2 q) ∙ ap (λ (x : ℕ). eqb x 1)
    (mul-mod_left (2 ^ q) 2) ∙ sym (eqb-zero-suc q)
bit_power (suc q) (suc i) =
    bit-suc (2 ^ suc q) i ∙ ap (λ (x : ℕ). bit (x / 2) i) (pow-suc 2 q) ∙ ap (λ (x : ℕ). bit x i)
    (mul-div_cancel (2 ^ q) (lit< tt)) ∙ bit_power q i
    ∙ sym (eqb-suc-suc i q)

-- `set.unbounded_shr(q) & 1 == 1`
pub shifted_bit : (set q : ℕ) → set < 2 ^ 64 → eqb (bit_and (cond (ltb q 64) (set / 2 ^ q) 0) 1) 1 ≡ bit set q
unfolding bit
shifted_bit set q f = rw (whole (told (ltb q 64))) (ap (λ (x : ℕ). eqb x 1) (and_mask (set / 2 ^ q) 1))
  where
    whole : Told (ltb q 64) → cond (ltb q 64) (set / 2 ^ q) 0 ≡ set / 2 ^ q
    whole (yea t) = rw t
    whole (nay t) = rw t (sym (div-eq_of_lt (lt_of_lt_of_le f (pow_mono (ltb-false q 64 t)))))

-- `1 << q`, and `1u64.unbounded_shl(q)`: its one bit, below 64
pub shifted_one : (q : ℕ) → q < 64 → (1 * 2 ^ q) % 2 ^ 64 ≡ 2 ^ q
shifted_one q h = one_shl q 64 h

module _ (q : ℕ) where
  one_bit : (t : Told (ltb q 64)) (i : ℕ) → i < 64 → bit (cond (ltb q 64) ((1 * 2 ^ q) % 2 ^ 64) 0) i ≡ eqb i q
  one_bit (yea t) i h = rw (t, shifted_one q (ltb-true q 64 t)) (bit_power q i)
  one_bit (nay t) i h =
      let over : 64 ≤ q = ltb-false q 64 t in rw t (bit_none i ∙ sym (eqb-false {m = i} {n = q} (λ e. omega arith)))

  one_fits : Told (ltb q 64) → cond (ltb q 64) ((1 * 2 ^ q) % 2 ^ 64) 0 < 2 ^ 64
  one_fits (yea t) = rw (t, shifted_one q (ltb-true q 64 t)) (pow-lt (ltb-true q 64 t))
  one_fits (nay t) = rw t (omega arith)

-- ---- masks

pub mask_like : (k : ℕ) (f g : ℕ → Bool) → ((i : ℕ) → i < k → f i ≡ g i) → mask k f ≡ mask k g
unfolding mask
mask_like zero f g e = refl
mask_like (suc k) f g e = rw (e 0 (omega arith), mask_like k (λ i. f (suc i)) (λ i. g (suc i)) (λ i h. e (suc i) (omega arith)))

-- a number is the mask of its bits
pub mask_bits : (k n : ℕ) (f : ℕ → Bool) → n < 2 ^ k → ((i : ℕ) → i < k → bit n i ≡ f i) → n ≡ mask k f
mask_bits k n f h e = sym (mask-members k n h) ∙ mask_like k _ f (λ i l. has-members k n i l ∙ e i l)

-- a set with q, if q is below 64, or as it is
module _ (set q : ℕ) (f : set < 2 ^ 64) where
  pub with_bit : bit_or set (cond (ltb q 64) ((1 * 2 ^ q) % 2 ^ 64) 0) ≡ mask 64 (λ j. bit set j || eqb j q)
  with_bit =
      let one = cond (ltb q 64) ((1 * 2 ^ q) % 2 ^ 64) 0 in
      mask_bits 64 (bit_or set one) _ (or_lt 64 set one f (one_fits q (told (ltb q 64))))
      (λ j l. bit-or set one j ∙ rw (one_bit q (told (ltb q 64)) j l))

module _ (flag : Bool) (set q : ℕ) (f : set < 2 ^ 64) where
  pub without_bit : (flag && ltb q 64) ≡ false → set ≡ mask 64 (λ j. bit set j || (flag && eqb j q))
  without_bit n = mask_bits 64 set _ f (λ j l. sym (ap (λ b. bit set j || b) (go j l flag n) ∙ or-false (bit set j)))
    where
      go : (j : ℕ) → j < 64 → (b : Bool) → (b && ltb q 64) ≡ false → (b && eqb j q) ≡ false
      go j l true n = let h : 64 ≤ q = ltb-false q 64 n in eqb-false {m = j} {n = q} (λ e. omega arith)
      go j l false n = refl
