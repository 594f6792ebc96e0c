-- A byte of a form that is not refused: what the refusals leave of its move, and what its class says.
use mathlib.Core.Path.{◌≡◌, refl, ap, ◌∙◌}
use mathlib.Core.Logic.{◌≢◌}
use mathlib.Core.Bool.{Bool, true, false, cond, not, ◌&&◌, ◌||◌}
use mathlib.Core.List.{List, ◌∷◌}
use Prim.Native.Nat.{ℕ, suc}
use native.Mathlib.Omega.{arith}
use borrow.Author.Tests.{not-false}
use Rattle.model.specs.Bytes.{Class, white, letter, digit, hyphen, less, greater, slash, other, forbidden, is, class_of, name_byte}
use Rattle.model.specs.Names.{tag_of}
use Rattle.model.specs.Text.{Move, opens, names, stops, move, does, Open, State, name_at, refusal_2, refusal_3, refusal_4, innermost}
use Rattle.model.specs.Text.{refusal_5, number_at}
use Rattle.model.specs.Written.{text_byte, solid_byte}
use Rattle.model.proofs.Tests.{Yes, never, same, eqb_no}

-- ---- a byte that is not refused

-- what the refusals 3 to 5 leave of a move m by byte b
pub record Allowed (list : List ℕ) (os : List Open) (b : ℕ) (t : List ℕ) (m : Move) : Type 0 where
  pub goes_on : does m stops ≡ false
  pub listed : Yes (does m opens) → tag_of list (name_at (b ∷ t)) ≢ 0
  pub innermost-named : Yes (does m names) → tag_of list (name_at (b ∷ t)) ≡ innermost os

not-refused : (b : Bool) (k m : ℕ) → cond b (suc k) m ≡ 0 → (b ≡ false) × (m ≡ 0)
not-refused true k m e = absurd (omega arith)
not-refused false k m e = (refl, e)

fails : (a b : Bool) → (a && b) ≡ false → Yes a → b ≡ false
fails true b e t = e
fails false b e t = never t

pub not_stopped : (list : List ℕ) (st : State) (b : ℕ) (t : List ℕ) → number_at list st (b ∷ t) ≡ 0
    → Allowed list st.opened b t (move st.place (class_of b))
unfolding number_at refusal_2 refusal_3 refusal_4 refusal_5
not_stopped list st b t e =
    let (r2, e2) = not-refused (refusal_2 st (b ∷ t)) 1 _ e in
    let (r3, e3) = not-refused (refusal_3 st (b ∷ t)) 2 _ e2 in
    let (r4, e4) = not-refused (refusal_4 list st (b ∷ t)) 3 _ e3 in
    let (r5, e5) = not-refused (refusal_5 list st (b ∷ t)) 4 _ e4 in
    record {
      goes_on = r3;
      listed = λ h. eqb_no (fails _ _ r4 h);
      innermost-named = λ h. same _ _ (not-false _ (fails _ _ r5 h));
    }

-- what a byte of a class may stand in: a name; a text; the ends of a text
abbrev pub name_class : Class → Bool
name_class k = is k letter || (is k digit || is k hyphen)

abbrev pub text_class : Class → Bool
text_class k = not (is k less) && (not (is k greater) && not (is k forbidden))

abbrev pub solid_class : Class → Bool
solid_class k = not (is k white)

pub as_name_byte : (b : ℕ) {k : Class} {v : Bool} → class_of b ≡ k → name_class k ≡ v → name_byte b ≡ v
unfolding name_byte
as_name_byte b c e = ap name_class c ∙ e

pub as_text_byte : (b : ℕ) {k : Class} → class_of b ≡ k → Yes (text_class k) → Yes (text_byte b)
unfolding text_byte
as_text_byte b c e = ap text_class c ∙ e

pub as_solid_byte : (b : ℕ) {k : Class} → class_of b ≡ k → Yes (solid_class k) → Yes (solid_byte b)
unfolding solid_byte
as_solid_byte b c e = ap solid_class c ∙ e

-- a case for each class
pub row : (P : Class → Type 0) → P white → P letter → P digit → P hyphen → P less → P greater → P slash → P other → P forbidden →
    (k : Class) → P k
row P w l d h lt gt s o f white = w
row P w l d h lt gt s o f letter = l
row P w l d h lt gt s o f digit = d
row P w l d h lt gt s o f hyphen = h
row P w l d h lt gt s o f less = lt
row P w l d h lt gt s o f greater = gt
row P w l d h lt gt s o f slash = s
row P w l d h lt gt s o f other = o
row P w l d h lt gt s o f forbidden = f
