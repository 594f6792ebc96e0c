-- The model's decimal is the fewest digits of the library's.
use mathlib.Core.Path.{◌≡◌, refl, ap}
use mathlib.Core.List.{List, [], ◌∷◌, ◌++◌}
use Prim.Native.Nat.{ℕ, zero, suc, ◌+◌, ◌-◌, ◌/◌, ◌%◌, ◌^◌, ◌≤◌, ◌<◌}
use native.Mathlib.Nat.{suc_inj, pow-zero, pow-suc, mod-lt}
use native.Mathlib.Omega.{arith}
use borrow.Author.Tests.{lt-ltb}
use Rattle.io.specs.Digits.{hex_digit_ascii, IsDigitCount}
use Rattle.io.specs.Digits as io
use Rattle.model.specs.Line.{bytes, digits, decimal, field}

below_power : (k : ℕ) → k < 10 ^ k
below_power zero = rw (pow-zero 10) (omega arith)
below_power (suc k) = rw (pow-suc 10 k) (omega (arith, below_power k))

digit_glyph : (n : ℕ) → 48 + n % 10 ≡ hex_digit_ascii (n % 10)
digit_glyph n = let low : n % 10 < 10 = mod-lt n (omega arith) in rw (lt-ltb (n % 10) 10 low)

-- The digits of n in at least k steps, where k is the fewest digits that hold n, none for 0.
same_digits : (k steps n : ℕ) → n < 10 ^ k → ((j : ℕ) → k ≡ suc j → 10 ^ j ≤ n) → k ≤ steps → digits steps n ≡ io.last_digits 10 k n
unfolding digits
same_digits zero zero n high low h = refl
same_digits zero (suc steps) zero high low h = refl
same_digits zero (suc steps) (suc n) high low h = absurd (omega (arith, pow-zero 10))
same_digits (suc k) zero n high low h = absurd (omega arith)
same_digits (suc k) (suc steps) zero high low h = absurd (omega (arith, low k refl, below_power k))
same_digits (suc k) (suc steps) (suc n) high low h =
    let below : suc n / 10 < 10 ^ k = omega (arith, pow-suc 10 k) in
    let rest = same_digits k steps (suc n / 10) below (λ j e. let all = low k refl in omega (arith, pow-suc 10 j, ap (λ i. 10 ^ i) e))
    (omega arith) in
    rw rest (ap (λ d. io.last_digits 10 k (suc n / 10) ++ (d ∷ [])) (digit_glyph (suc n)))

-- the lowest number of k + 1 digits, but for 0
lowest : (k n : ℕ) → 0 < n → (1 < suc k → 10 ^ (suc k - 1) ≤ n) → 10 ^ k ≤ n
lowest zero n pos low = omega (arith, pow-zero 10)
lowest (suc k) n pos low = let one : suc (suc k) - 1 ≡ suc k = omega arith in rw one at (low (omega arith))

pub decimal-is : (n k : ℕ) → IsDigitCount 10 1 n k → decimal n ≡ io.last_digits 10 k n
unfolding decimal bytes
decimal-is n zero (least, high, low) = absurd (omega arith)
decimal-is zero (suc zero) h = refl
decimal-is zero (suc (suc k)) (least, high, low) = let one : suc
    (suc k) - 1 ≡ suc k = omega arith in absurd (omega (arith, rw one at (low (omega arith)), below_power (suc k)))
decimal-is (suc n) (suc k) (least, high, low) =
    let all = lowest k (suc n) (omega arith) low in
    same_digits (suc k) (suc n) (suc n) high (λ j e. rw (← suc_inj e) all) (omega (arith, below_power k))

-- One space and a number's digits are a field.
pub field-digits : {k n : ℕ} {text : List ℕ} → IsDigitCount 10 1 n k → text ≡ io.last_digits 10 k n → bytes " " ++ text ≡ field n
unfolding field
field-digits {k} {n} fewest spelt = rw (decimal-is n k fewest, ← spelt)
