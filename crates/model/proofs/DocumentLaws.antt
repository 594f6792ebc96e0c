-- Documents: an element behind a document, and the text words of all nodes.
use mathlib.Core.Path.{◌≡◌, refl, ap}
use mathlib.Core.Logic.{◌↔◌}
use mathlib.Core.Bool.{Bool, true, false, cond, ◌&&◌}
use mathlib.Core.List.{List, [], ◌∷◌}
use Prim.Native.Nat.{ℕ, suc, ◌+◌}
use native.Mathlib.Omega.{arith}
use Rattle.model.specs.Lists.{every}
use Rattle.model.specs.Answers.{passes, refuses}
use Rattle.model.specs.Tree.{Element, Document, ε, ◌·◌, size, sizeD, is_text}
use Rattle.model.specs.Text.{behind}
use Rattle.model.specs.Written.{good_words, texts_checked}
use Rattle.model.proofs.Tests.{Yes, never}
use Rattle.model.proofs.CheckLaws.{refuses≢passes}

-- ---- an element behind a document

-- a document ends in a text, where `after_text` says that a text stands just before it
unfoldable pub ends_in_text : (after_text : Bool) → Document → Bool
ends_in_text after_text ε = after_text
ends_in_text after_text (e · d) = ends_in_text (is_text e) d

pub size-behind : (d : Document) (f : Element) → sizeD (behind d f) ≡ sizeD d + size f
unfolding size behind
size-behind ε f = omega arith
size-behind (e · d) f = omega (arith, size-behind d f)

-- one document behind another
unfoldable pub followed : Document → Document → Document
followed ε d = d
followed (e · c) d = e · followed c d

pub followed_ε : (c : Document) → followed c ε ≡ c
unfolding followed
followed_ε ε = refl
followed_ε (e · c) = ap (λ (d : Document). e · d) (followed_ε c)

pub followed_behind : (c : Document) (e : Element) (d : Document) → followed (behind c e) d ≡ followed c (e · d)
unfolding followed behind
followed_behind ε e d = refl
followed_behind (f · c) e d = ap (λ (d : Document). f · d) (followed_behind c e d)

-- ---- the text words of all nodes

abbrev pub GoodNodes : List ℕ → List Element → Type 0
GoodNodes s l = Yes (every (good_words s) l)

-- they are what 11 asks for
pub texts-good : (s : List ℕ) (i : ℕ) (l : List Element) → (texts_checked s i l ≡ passes tt) ↔ GoodNodes s l
unfolding texts_checked every
texts-good s i [] = (λ e. refl, λ h. refl)
texts-good s i (x ∷ l) = go (good_words s x) (texts-good s (suc i) l)
  where
    go : (b : Bool) → (texts_checked s (suc i) l ≡ passes tt) ↔ GoodNodes s l
        → (cond b (texts_checked s (suc i) l) (refuses 11 i) ≡ passes tt) ↔ Yes (b && every (good_words s) l)
    go true h = h
    go false h = (λ e. absurd (refuses≢passes e), λ e. never e)
