-- Tests: a Bool that is true, by `b ≡ true`. (Of the library's `T b` antt doesn't find b where a proof is handed over.)
use mathlib.Core.Path.{◌≡◌, refl, sym, ap, ◌∙◌}
use mathlib.Core.Logic.{◌⊎◌, inl, inr, ◌≢◌}
use mathlib.Core.Bool.{Bool, true, false, not, ◌&&◌, ◌||◌, false≢true}
use Prim.Native.Nat.{ℕ, ◌≤◌}
use lib.Dec.{eqb, leb}
use borrow.Author.Tests as tests

abbrev pub Yes : Bool → Type 0
Yes b = b ≡ true

pub never {ℓ} : {A : Type ℓ} → false ≡ true → A
never e = absurd (false≢true e)

pub and_yes : {a b : Bool} → Yes a → Yes b → Yes (a && b)
and_yes {a} {b} s t = rw s t

pub and_left : (a b : Bool) → Yes (a && b) → Yes a
and_left true b t = refl
and_left false b t = t

pub and_right : (a b : Bool) → Yes (a && b) → Yes b
and_right true b t = t
and_right false b t = never t

pub or_left : {a : Bool} (b : Bool) → Yes a → Yes (a || b)
or_left b t = rw t

pub or_right : (a : Bool) {b : Bool} → Yes b → Yes (a || b)
or_right true t = refl
or_right false t = t

pub or_cases : (a b : Bool) → Yes (a || b) → Yes a ⊎ Yes b
or_cases true b t = inl refl
or_cases false b t = inr t

pub not_yes : {b : Bool} → b ≡ false → Yes (not b)
not_yes e = ap not e

pub yes_not : (b : Bool) → Yes (not b) → b ≡ false
yes_not true t = never t
yes_not false t = refl

-- a test, with what it tells
pub data Told (b : Bool) : Type 0 where
  yea : Yes b → Told b
  nay : b ≡ false → Told b

pub told : (b : Bool) → Told b
told true = yea refl
told false = nay refl

-- two tests that pass together are one
pub yes_like : (a b : Bool) → (Yes a → Yes b) → (Yes b → Yes a) → a ≡ b
yes_like true b f g = sym (f refl)
yes_like false true f g = g refl
yes_like false false f g = refl

-- ---- numbers

pub same : (m n : ℕ) → Yes (eqb m n) → m ≡ n
same m n e = tests.eqb-true m n e

pub eqb_yes : {m n : ℕ} → m ≡ n → Yes (eqb m n)
eqb_yes {m} {n} e = tests.eq-eqb m n e

pub eqb_no : {m n : ℕ} → eqb m n ≡ false → m ≢ n
eqb_no h e = false≢true (sym h ∙ eqb_yes e)

pub eqb-false : {m n : ℕ} → m ≢ n → eqb m n ≡ false
eqb-false {m} {n} f = tests.ne_eqb m n f

-- two equations that hold together are tested alike
pub eqb_like : (m n k l : ℕ) → (m ≡ n → k ≡ l) → (k ≡ l → m ≡ n) → eqb m n ≡ eqb k l
eqb_like m n k l f g = yes_like (eqb m n) (eqb k l) (λ e. eqb_yes (f (same m n e))) (λ e. eqb_yes (g (same k l e)))

pub between_yes : (a b x : ℕ) → a ≤ x → x ≤ b → Yes (leb a x && leb x b)
between_yes a b x h k = and_yes (tests.le-leb a x h) (tests.le-leb x b k)

pub between_inv : (a b x : ℕ) → Yes (leb a x && leb x b) → (a ≤ x) × (x ≤ b)
between_inv a b x e = (tests.leb-true a x (and_left (leb a x) (leb x b) e), tests.leb-true x b (and_right (leb a x) (leb x b) e))
