-- Classes of bytes: what a test of a byte says of its class, and how far a name and a text go on.
use mathlib.Core.Path.{◌≡◌, refl, sym, ap, subst, ◌∙◌}
use mathlib.Core.Logic.{◌⊎◌, inl, inr}
use mathlib.Core.Bool.{Bool, true, false, cond, not, ◌&&◌, ◌||◌}
use mathlib.Core.List.{List, [], ◌∷◌, ◌++◌}
use Prim.Native.Nat.{ℕ}
use lib.Dec.{eqb}
use lib.ListN.{length, get_or}
use Rattle.model.specs.Lists.{every}
use Rattle.model.specs.Bytes.{Class, white, letter, digit, hyphen, less, greater, slash, other, forbidden, class_number, is, class_of}
use Rattle.model.specs.Bytes.{within, less_byte, greater_byte, slash_byte, letter_byte, name_byte, is_name}
use Rattle.model.specs.Text.{name_at, trimmed, text_at}
use Rattle.model.specs.Written.{text_byte, solid_byte, trimmed_text}
use Rattle.model.proofs.ListLaws.{every-cons}
use Rattle.model.proofs.Tests.{Yes, never, and_yes, and_left, and_right, or_left, or_cases, yes_not, same}

-- ---- classes

-- a class by its number
numbered : ℕ → Class
numbered n = get_or (white ∷ letter ∷ digit ∷ hyphen ∷ less ∷ greater ∷ slash ∷ other ∷ forbidden ∷ []) n other

numbered_back : (c : Class) → numbered (class_number c) ≡ c
unfolding numbered class_number
numbered_back white = refl
numbered_back letter = refl
numbered_back digit = refl
numbered_back hyphen = refl
numbered_back less = refl
numbered_back greater = refl
numbered_back slash = refl
numbered_back other = refl
numbered_back forbidden = refl

-- a class that tests as k is k
pub is_class : (c k : Class) → Yes (is c k) → c ≡ k
unfolding is
is_class c k t = sym (numbered_back c) ∙ ap numbered (same (class_number c) (class_number k) t) ∙ numbered_back k

-- a byte by its class: <, > and / are one byte each
data Of (b : ℕ) : Class → Type 0 where
  a_white : Of b white
  a_letter : Of b letter
  a_digit : Of b digit
  a_hyphen : Of b hyphen
  a_less : b ≡ less_byte → Of b less
  a_greater : b ≡ greater_byte → Of b greater
  a_slash : b ≡ slash_byte → Of b slash
  an_other : Of b other
  a_forbidden : Of b forbidden

of_class : (b : ℕ) → Of b (class_of b)
unfolding class_of
of_class b =
    test (eqb b 9 || (eqb b 10 || (eqb b 13 || eqb b 32))) (λ y. a_white)
    (test (within 65 90 b || within 97 122 b) (λ y. a_letter)
    (test (within 48 57 b) (λ y. a_digit)
    (test (eqb b 45) (λ y. a_hyphen)
    (test (eqb b less_byte) (λ y. a_less (same b less_byte y))
    (test (eqb b greater_byte) (λ y. a_greater (same b greater_byte y))
    (test (eqb b slash_byte) (λ y. a_slash (same b slash_byte y))
    (test (eqb b 38) (λ y. a_forbidden)
    (test (within 33 126 b) (λ y. an_other) a_forbidden))))))))
  where
    test : (t : Bool) {k l : Class} → (Yes t → Of b k) → Of b l → Of b (cond t k l)
    test true h p = h refl
    test false h p = p

pub less_is : (b : ℕ) → class_of b ≡ less → b ≡ less_byte
less_is b e = go (subst (Of b) e (of_class b))
  where
    go : Of b less → b ≡ less_byte
    go (a_less h) = h

pub greater_is : (b : ℕ) → class_of b ≡ greater → b ≡ greater_byte
greater_is b e = go (subst (Of b) e (of_class b))
  where
    go : Of b greater → b ≡ greater_byte
    go (a_greater h) = h

pub slash_is : (b : ℕ) → class_of b ≡ slash → b ≡ slash_byte
slash_is b e = go (subst (Of b) e (of_class b))
  where
    go : Of b slash → b ≡ slash_byte
    go (a_slash h) = h

pub letter_class : (b : ℕ) → Yes (letter_byte b) → class_of b ≡ letter
unfolding letter_byte
letter_class b t = is_class (class_of b) letter t

-- what holds of the three classes of a name holds of a name's byte
pub name_cases : (P : Class → Type 0) → P letter → P digit → P hyphen → (b : ℕ) → Yes (name_byte b) → P (class_of b)
unfolding name_byte
name_cases P l d h b t = go (or_cases (is c letter) (is c digit || is c hyphen) t)
  where
    c : Class
    c = class_of b

    more : Yes (is c digit) ⊎ Yes (is c hyphen) → P c
    more (inl u) = subst P (sym (is_class c digit u)) d
    more (inr u) = subst P (sym (is_class c hyphen u)) h

    go : Yes (is c letter) ⊎ Yes (is c digit || is c hyphen) → P c
    go (inl u) = subst P (sym (is_class c letter u)) l
    go (inr u) = more (or_cases (is c digit) (is c hyphen) u)

-- what holds of the six classes of a text holds of a text's byte
pub text_cases : (P : Class → Type 0) → P white → P letter → P digit → P hyphen → P slash → P other
    → (b : ℕ) → Yes (text_byte b) → P (class_of b)
unfolding text_byte is class_number
text_cases P w l d h s o b t = go (class_of b) t
  where
    go : (c : Class) → Yes (not (is c less) && (not (is c greater) && not (is c forbidden))) → P c
    go white t = w
    go letter t = l
    go digit t = d
    go hyphen t = h
    go less t = never t
    go greater t = never t
    go slash t = s
    go other t = o
    go forbidden t = never t

-- ---- names and texts

-- a name goes on up to what begins none
name-bytes-end : (name r : List ℕ) → Yes (every name_byte name) → name_at r ≡ [] → name_at (name ++ r) ≡ name
unfolding name_at
name-bytes-end [] r t e = e
name-bytes-end (b ∷ name) r t e = let (u, v) = every-cons name_byte b name t in rw (u, name-bytes-end name r v e)

-- a name, test by test
pub name-cons : (b : ℕ) (name : List ℕ) → Yes (is_name (b ∷ name)) → Yes (letter_byte b) × Yes (every name_byte name)
unfolding is_name
name-cons b name t = (and_left (letter_byte b) (every name_byte name) t, and_right (letter_byte b) (every name_byte name) t)

pub name-at-end : (name r : List ℕ) → Yes (is_name name) → name_at r ≡ [] → name_at (name ++ r) ≡ name
unfolding is_name every letter_byte name_byte
name-at-end [] r t e = never t
name-at-end (b ∷ name) r t e = let (u, v) = name-cons b name t in name-bytes-end (b ∷ name) r (and_yes (or_left _ u) v) e

-- no byte of a text is <
pub not_less : (b : ℕ) → Yes (text_byte b) → is (class_of b) less ≡ false
unfolding is class_number
not_less b t = text_cases (λ c. is c less ≡ false) refl refl refl refl refl refl b t

-- a text that ends in a byte that is not white goes on up to what begins no text
pub text_at-end : (b : ℕ) (t r : List ℕ) → Yes (every text_byte (b ∷ t)) → Yes (solid_byte (get_or (b ∷ t) (length t) 0)) → text_at r ≡ []
    → text_at ((b ∷ t) ++ r) ≡ b ∷ t
unfolding text_at trimmed solid_byte
text_at-end b [] r h last e = rw (not_less b (every-cons text_byte b [] h).0, e, yes_not (is (class_of b) white) last)
text_at-end b (d ∷ t) r h last e = let (u, v) = every-cons text_byte b (d ∷ t) h in rw (not_less b u)
    (ap (trimmed b) (text_at-end d t r v last e))

-- a trimmed text, test by test
pub trimmed-cons : (b : ℕ) (t : List ℕ) → Yes (trimmed_text (b ∷ t))
    → Yes (solid_byte b) × Yes (solid_byte (get_or (b ∷ t) (length t) 0)) × Yes (every text_byte (b ∷ t))
unfolding trimmed_text
trimmed-cons b t h =
    let last = solid_byte (get_or (b ∷ t) (length t) 0) in
    let all = every text_byte (b ∷ t) in
    let more = and_right (solid_byte b) (last && all) h in
    (and_left (solid_byte b) (last && all) h, and_left last all more, and_right last all more)
