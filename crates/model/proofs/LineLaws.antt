-- Numbers in decimal: the digits of a number come to it in base ten, each is a digit, and only 0 begins with the digit 0. And lines:
-- what was said can be read back from its line.
use mathlib.Core.Path.{◌≡◌, refl, sym, ap, ◌∙◌}
use mathlib.Core.Bool.{cond}
use mathlib.Core.List.{List, [], ◌∷◌, ◌++◌, append_assoc}
use Prim.Native.Nat.{ℕ, zero, suc, ◌+◌, ◌-◌, ◌*◌, ◌/◌, ◌%◌, ◌≤◌, ◌<◌}
use native.Mathlib.Omega.{arith}
use lib.Dec.{eqb, leb}
use lib.ListN.{get_or, drop}
use borrow.Author.Tests.{le-leb, lt-leb}
use Rattle.model.specs.Answers.{Said, count, accepted, refused, stuck, refusal}
use Rattle.model.specs.Line.{bytes, digits, decimal, field, line_of, value, Digits, Leads}

-- ---- one more digit

value_snoc : (l : List ℕ) (a d : ℕ) → value a (l ++ (d ∷ [])) ≡ value a l * 10 + (d - 48)
unfolding value
value_snoc [] a d = refl
value_snoc (x ∷ l) a d = value_snoc l (a * 10 + (x - 48)) d

digits_snoc : (l : List ℕ) (d : ℕ) → Digits l → 48 ≤ d → d ≤ 57 → Digits (l ++ (d ∷ []))
unfolding Digits
digits_snoc [] d h low high = (low, high, tt)
digits_snoc (x ∷ l) d (a, b, h) low high = (a, b, digits_snoc l d h low high)

leads-append : (l m : List ℕ) → Leads l → Leads (l ++ m)
unfolding Leads
leads-append [] m h = absurd h
leads-append (x ∷ l) m h = h

-- ---- the digits of a number, in at least as many steps

digits_value : (steps n : ℕ) → n ≤ steps → value 0 (digits steps n) ≡ n
unfolding digits value
digits_value zero n h = omega arith
digits_value (suc steps) zero h = refl
digits_value (suc steps) (suc n) h =
    let rest = digits_value steps (suc n / 10) (omega arith) in
    value_snoc (digits steps (suc n / 10)) 0 (48 + suc n % 10) ∙ rw rest (omega arith)

digits_are : (steps n : ℕ) → Digits (digits steps n)
unfolding digits Digits
digits_are zero n = tt
digits_are (suc steps) zero = tt
digits_are (suc steps) (suc n) = digits_snoc (digits steps (suc n / 10)) (48 + suc n % 10) (digits_are steps (suc n / 10)) (omega arith)
    (omega arith)

digits_of_0 : (steps : ℕ) → digits steps 0 ≡ []
unfolding digits
digits_of_0 zero = refl
digits_of_0 (suc steps) = refl

digits_lead : (steps n : ℕ) → 0 < n → n ≤ steps → Leads (digits steps n)
unfolding digits Leads
digits_lead zero n pos h = absurd (omega arith)
digits_lead (suc steps) zero pos h = absurd (omega arith)
digits_lead (suc steps) (suc n) pos h = go (suc n / 10) refl (digits_lead steps (suc n / 10))
  where
    go : (q : ℕ) → suc n / 10 ≡ q → (0 < suc n / 10 → suc n / 10 ≤ steps → Leads (digits steps (suc n / 10)))
        → Leads (digits steps (suc n / 10) ++ ((48 + suc n % 10) ∷ []))
    go zero e rest = rw (e, digits_of_0 steps) (λ z. omega arith)
    go (suc q) e rest = leads-append (digits steps (suc n / 10)) _ (rest (omega arith) (omega arith))

-- ---- a number in decimal

pub decimal-value : (n : ℕ) → value 0 (decimal n) ≡ n
unfolding decimal value bytes
decimal-value zero = refl
decimal-value (suc n) = digits_value (suc n) (suc n) (omega arith)

pub decimal-digits : (n : ℕ) → Digits (decimal n)
unfolding decimal Digits bytes
decimal-digits zero = (omega arith, omega arith, tt)
decimal-digits (suc n) = digits_are (suc n) (suc n)

pub decimal-leads : (n : ℕ) → 0 < n → Leads (decimal n)
unfolding decimal
decimal-leads zero pos = absurd (omega arith)
decimal-leads (suc n) pos = digits_lead (suc n) (suc n) pos (omega arith)

-- ---- a line is read back

-- the number at the front of some bytes, behind digits that come to a, and what stands behind it
number : ℕ → List ℕ → ℕ × List ℕ
number a [] = (a, [])
number a (d ∷ l) = cond (leb 48 d) (number (a * 10 + (d - 48)) l) (a, d ∷ l)

number-reads : (l : List ℕ) (a b : ℕ) (rest : List ℕ) → Digits l → b < 48 → number a (l ++ (b ∷ rest)) ≡ (value a l, b ∷ rest)
unfolding number value Digits
number-reads [] a b rest h low = rw (lt-leb 48 b low)
number-reads (d ∷ l) a b rest (from, to, h) low = rw (le-leb 48 d from) (number-reads l (a * 10 + (d - 48)) b rest h low)

decimal-reads : (n b : ℕ) (rest : List ℕ) → b < 48 → number 0 (decimal n ++ (b ∷ rest)) ≡ (n, b ∷ rest)
decimal-reads n b rest low = number-reads (decimal n) 0 b rest (decimal-digits n) low ∙ ap (λ v. (v, b ∷ rest)) (decimal-value n)

-- two numbers, parted by one byte
two_numbers : (ℕ → ℕ → Said) → List ℕ → Said
two_numbers f l = f (number 0 l).0 (number 0 (drop 1 (number 0 l).1)).0

two_read : (f : ℕ → ℕ → Said) (a b : ℕ) → two_numbers f ((decimal a ++ (32 ∷ decimal b)) ++ (10 ∷ [])) ≡ f a b
unfolding two_numbers
two_read f a b =
    rw (
      append_assoc (decimal a) (32 ∷ decimal b) (10 ∷ []),
      decimal-reads a 32 (decimal b ++ (10 ∷ [])) (omega arith),
      decimal-reads b 10 [] (omega arith),
    )

-- what a line says, by its first letter
pub read-line : List ℕ → Said
read-line l =
    let first = get_or l 0 0 in
    cond (eqb first 97) (two_numbers accepted (drop 9 l))
    (cond (eqb first 114) (two_numbers refused (drop 8 l))
    (cond (eqb first 115) (two_numbers stuck (drop 6 l))
    (cond (eqb first 101) (two_numbers refusal (drop 6 l)) (count (number 0 (drop 6 l)).0))))

pub line_reads : (s : Said) → read-line (line_of s) ≡ s
unfolding read-line line_of field bytes
line_reads (accepted q m) = two_read accepted q m
line_reads (refused q m) = two_read refused q m
line_reads (stuck i m) = two_read stuck i m
line_reads (refusal n i) = two_read refusal n i
line_reads (count n) = ap (λ r. count r.0) (decimal-reads n 10 [] (omega arith))

-- So a line tells what was said.
pub line_tells : (s t : Said) → line_of s ≡ line_of t → s ≡ t
line_tells s t e = sym (line_reads s) ∙ ap read-line e ∙ line_reads t
