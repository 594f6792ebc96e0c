-- The name and the text that stand at the front of what is still to be read.
use mathlib.Core.Path.{◌≡◌, refl}
use mathlib.Core.Bool.{Bool, true, false, cond}
use mathlib.Core.List.{List, [], ◌∷◌}
use Prim.Native.Nat.{ℕ, ◌≤◌}
use native.Mathlib.Omega.{arith}
use lib.ListN.{length, get_or}
use Rattle.model.specs.Lists.{every}
use Rattle.model.specs.Bytes.{white, less, is, class_of, name_byte, digit_byte, kind_of_text}
use Rattle.model.specs.Text.{name_at, trimmed, text_at}
use Rattle.model.specs.Written.{text_byte, solid_byte, trimmed_text}
use Rattle.model.proofs.Tests.{Yes, and_yes, and_left, not_yes, yes_not}

-- ---- names

pub name-goes-on : (b : ℕ) (t : List ℕ) → Yes (name_byte b) → name_at (b ∷ t) ≡ b ∷ name_at t
unfolding name_at
name-goes-on b t h = rw h

pub name-ends : (b : ℕ) (t : List ℕ) → name_byte b ≡ false → name_at (b ∷ t) ≡ []
unfolding name_at
name-ends b t h = rw h

-- ---- texts

-- a byte b ahead of a text u makes the text b ∷ u, whose last byte is not white, or none
data Ahead (b : ℕ) (u : List ℕ) : List ℕ → Type 0 where
  none : Ahead b u []
  longer : (u ≡ [] → Yes (solid_byte b)) → Ahead b u (b ∷ u)

trimmed_ahead : (b : ℕ) (u : List ℕ) → Ahead b u (trimmed b u)
unfolding trimmed solid_byte
trimmed_ahead b [] = go (is (class_of b) white) refl
  where
    go : (w : Bool) → is (class_of b) white ≡ w → Ahead b [] (cond w [] (b ∷ []))
    go true e = none
    go false e = longer (λ n. not_yes e)
trimmed_ahead b (c ∷ u) = longer (λ n. let z : ◌≡◌ {A = ℕ} 0 1 = cc in absurd (omega arith))

text_ahead : (b : ℕ) (t : List ℕ) → Ahead b (text_at t) (text_at (b ∷ t))
unfolding text_at
text_ahead b t = go (is (class_of b) less)
  where
    go : (l : Bool) → Ahead b (text_at t) (cond l [] (trimmed b (text_at t)))
    go true = none
    go false = trimmed_ahead b (text_at t)

pub text_ends : (b : ℕ) (t : List ℕ) → Yes (is (class_of b) less) → text_at (b ∷ t) ≡ []
unfolding text_at
text_ends b t l = rw l

pub text_begins : (b : ℕ) (t : List ℕ) → Yes (text_byte b) → Yes (solid_byte b) → text_at (b ∷ t) ≡ b ∷ text_at t
unfolding text_at trimmed text_byte solid_byte
text_begins b t h k = rw (yes_not (is (class_of b) less) (and_left _ _ h)) (go (text_at t))
  where
    go : (u : List ℕ) → trimmed b u ≡ b ∷ u
    go [] = rw (yes_not (is (class_of b) white) k)
    go (c ∷ u) = refl

-- its last byte is not white
abbrev EndsSolid : List ℕ → Type 0
EndsSolid [] = Unit {0}
EndsSolid (b ∷ u) = Yes (solid_byte (get_or (b ∷ u) (length u) 0))

ends_solid : (r : List ℕ) → EndsSolid (text_at r)
unfolding text_at
ends_solid [] = tt
ends_solid (b ∷ t) = go (text_ahead b t) (ends_solid t)
  where
    go : {u v : List ℕ} → Ahead b u v → EndsSolid u → EndsSolid v
    go none s = tt
    go {u = []} (longer h) s = h refl
    go {u = c ∷ u} (longer h) s = s

-- a text that begins with a byte which is not white is trimmed
pub text_trimmed : (b : ℕ) (t : List ℕ) → Yes (text_byte b) → Yes (solid_byte b) → Yes (every text_byte (text_at t)) → Yes
    (trimmed_text (text_at (b ∷ t)))
unfolding trimmed_text every
text_trimmed b t h k l = rw e (and_yes k (and_yes (rw e at (ends_solid (b ∷ t))) (and_yes h l)))
  where
    e : text_at (b ∷ t) ≡ b ∷ text_at t
    e = text_begins b t h k

-- ---- its kind

pub kind_range : (bytes : List ℕ) → (1 ≤ kind_of_text bytes) × (kind_of_text bytes ≤ 2)
unfolding kind_of_text
kind_range bytes = go (every digit_byte bytes)
  where
    go : (b : Bool) → (1 ≤ cond b 1 2) × (cond b 1 2 ≤ 2)
    go true = omega arith
    go false = omega arith
