-- One check after another: what it tells that a sequence of checks passes, and the number that a sequence refuses with.
use mathlib.Core.Path.{◌≡◌, refl, ap, subst}
use mathlib.Core.Logic.{◌↔◌}
use mathlib.Core.Bool.{Bool, true, false, cond}
use Prim.Native.Nat.{ℕ}
use native.Mathlib.Omega.{arith}
use Rattle.model.specs.Answers.{Checked, passes, refuses, ◌>>=◌, ◌>>◌, require}
use Rattle.model.proofs.Tests.{Yes, never}

pub refuses≢passes : {A : Type 0} {a : A} {n i : ℕ} → refuses n i ≡ passes a → ⊥
refuses≢passes e = let z : ◌≡◌ {A = ℕ} 0 1 = cc in omega arith

pub passes_inj : {A : Type 0} {a b : A} → ◌≡◌ {A = Checked A} (passes a) (passes b) → a ≡ b
passes_inj {A} {a} e = ap value e
  where
    value : Checked A → A
    value (passes x) = x
    value (refuses n i) = a

-- a sequence passes where each of its checks does
pub bind_inv : {A B : Type 0} (c : Checked A) (f : A → Checked B) {b : B} → (c >>= f) ≡ passes b → (a : A) × (c ≡ passes a) ×
    (f a ≡ passes b)
unfolding ◌>>=◌
bind_inv (passes a) f e = (a, refl, e)
bind_inv (refuses n i) f e = absurd (refuses≢passes e)

pub bind_passes : {A B : Type 0} {c : Checked A} {a : A} (f : A → Checked B) → c ≡ passes a → (c >>= f) ≡ f a
unfolding ◌>>=◌
bind_passes f e = rw e

pub bind_refused : {A B : Type 0} {c : Checked A} {n i : ℕ} (f : A → Checked B) → c ≡ refuses n i → (c >>= f) ≡ refuses n i
unfolding ◌>>=◌
bind_refused f e = rw e

pub then_inv : {A B : Type 0} (c : Checked A) (d : Checked B) {b : B} → (c >> d) ≡ passes b → (a : A) × (c ≡ passes a) × (d ≡ passes b)
unfolding ◌>>◌
then_inv (passes a) d e = (a, refl, e)
then_inv (refuses n i) d e = absurd (refuses≢passes e)

pub then_passes : {A B : Type 0} {c : Checked A} {a : A} (d : Checked B) → c ≡ passes a → (c >> d) ≡ d
unfolding ◌>>◌
then_passes d e = rw e

pub require-is : (b : Bool) (n i : ℕ) → (require b n i ≡ passes tt) ↔ Yes b
unfolding require
require-is true n i = (λ e. refl, λ e. refl)
require-is false n i = (λ e. absurd (refuses≢passes e), λ e. never e)

pub required : {A : Type 0} {a : A} (b : Bool) (n i : ℕ) (c : Checked A) → ((require b n i >> c) ≡ passes a) ↔ (Yes b × (c ≡ passes a))
unfolding require ◌>>◌
required true n i c = (λ e. (refl, e), λ e. e.1)
required false n i c = (λ e. absurd (refuses≢passes e), λ e. never e.0)

-- a test that passes, and what is said behind it
pub guarded : {A : Type 0} (b : Bool) (next : Checked A) (n i : ℕ) {a : A} → cond b next (refuses n i) ≡ passes a
    → Yes b × (next ≡ passes a)
guarded true next n i e = (refl, e)
guarded false next n i e = absurd (refuses≢passes e)

-- ---- the number that a sequence refuses with

abbrev pub RefusesBy : {A : Type 0} → ℕ → Checked A → Type 0
RefusesBy n (passes a) = Unit {0}
RefusesBy n (refuses m i) = m ≡ n

pub bind_refuses : {A B : Type 0} (n : ℕ) (c : Checked A) (f : A → Checked B) → RefusesBy n c → ((a : A) → RefusesBy n (f a)) → RefusesBy n
    (c >>= f)
unfolding ◌>>=◌
bind_refuses n (passes a) f h k = k a
bind_refuses n (refuses m i) f h k = h

pub require_refuses : {A : Type 0} (b : Bool) (n i : ℕ) (c : Checked A) → RefusesBy n c → RefusesBy n (require b n i >> c)
unfolding require ◌>>◌
require_refuses true n i c h = h
require_refuses false n i c h = refl

pub refuses_by : {A : Type 0} {n m i : ℕ} {c : Checked A} → RefusesBy n c → c ≡ refuses m i → m ≡ n
refuses_by {n = n} h e = subst (RefusesBy n) e h
