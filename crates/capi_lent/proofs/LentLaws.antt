-- The lent array after a whole answer.
use mathlib.Core.Path.{◌≡◌, ◌∙◌}
use mathlib.Core.List.{List, [], ◌∷◌, ◌++◌}
use Prim.Native.Nat.{ℕ, min}
use native.Mathlib.Omega.{arith}
use lib.ListN.{length, take, drop}
use Rattle.model.specs.Answers.{Said}
use Rattle.answers.specs.declared.Numbers.{Numbers}
use Rattle.answers.specs.Numbers.{kind_number, kind_of, numbers_of}
use Rattle.capi_lent.specs.Lent.{filled, filled_by, answer_after}

-- as many of the three numbers as there is room for
pub room_for : (lent : List ℕ) (kind first second room : ℕ) → room ≡ min (length lent) 3
    → take room (kind ∷ first ∷ second ∷ []) ++ drop room lent ≡ filled_by lent kind first second
unfolding filled_by
room_for [] a b c room e = rw e
room_for (x ∷ []) a b c room e = rw e
room_for (x ∷ y ∷ []) a b c room e = rw e
room_for (x ∷ y ∷ z ∷ []) a b c room e = rw e
room_for (x ∷ y ∷ z ∷ w ∷ l) a b c room e = let all : room ≡ 3 = omega arith in rw all

-- ---- the numbers of what a call says, handed over

module _ {n : Numbers} {x y : Said} (t : n ≡ numbers_of x) (e : x ≡ y) where
  pub kind_handed : {r : ℕ} → r ≡ kind_number n.kind → r ≡ kind_of y
  kind_handed k = k ∙ rw (t, e)

  pub answer_handed : (lent : List ℕ) {out : List ℕ} → out ≡ filled lent n → out ≡ answer_after lent y
  unfolding answer_after
  answer_handed lent o = o ∙ rw (t, e)

  -- both, and beside them what the call promises of another lent buffer
  pub handed : (lent : List ℕ) {r : ℕ} {out : List ℕ} → (r ≡ kind_number n.kind) × (out ≡ filled lent n)
      → (r ≡ kind_of y) × (out ≡ answer_after lent y)
  handed lent (k, o) = (kind_handed k, answer_handed lent o)

pub handed_with : {n : Numbers} {x y : Said} → n ≡ numbers_of x → {Buffer : Type 0} → (x ≡ y) × Buffer → (lent : List ℕ) {r : ℕ} {out : List ℕ}
    → (r ≡ kind_number n.kind) × (out ≡ filled lent n) → (r ≡ kind_of y) × ((out ≡ answer_after lent y) × Buffer)
handed_with t (e, b) lent h = let (k, o) = handed t e lent h in (k, (o, b))
