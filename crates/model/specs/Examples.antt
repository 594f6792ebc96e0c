-- Tables of examples: what a row says, and the inputs that rows share.
use Rattle.std.specs.Prelude.{◌≡◌, true, ℕ, zero, suc, ◌/◌, ◌%◌, leb, replicate}
use mathlib.Core.List.{List, [], ◌∷◌, ◌++◌, flat_map}
use Rattle.model.specs.Answers.{Said}
use Rattle.model.specs.Line.{bytes}

-- A row: a call on its input, and what it says; what it leaves in a lent buffer, or prints; a number, and its value or its limit.
infix 70 ◌says◌ ◌leaves◌ ◌gives◌ ◌stays_within◌
pub data Row : Type 0 where
  ◌says◌ : (call said : Said) → Row
  ◌leaves◌ : (buffer words : List ℕ) → Row
  ◌gives◌ : (number value : ℕ) → Row
  ◌stays_within◌ : (number limit : ℕ) → Row

abbrev pub Holds : Row → Type 0
Holds (call says said) = call ≡ said
Holds (buffer leaves words) = buffer ≡ words
Holds (number gives value) = number ≡ value
Holds (number stays_within limit) = leb number limit ≡ true

-- ---- inputs

-- a lent buffer of some length, with 7 in each word
unfoldable pub room : ℕ → List ℕ
room n = replicate n 7

-- words some times over
unfoldable pub times : ℕ → List ℕ → List ℕ
times zero ws = []
times (suc n) ws = ws ++ times n ws

-- a sheet's file: each word is 4 bytes, lowest first
unfoldable pub file : List ℕ → List ℕ
file = flat_map (λ w. (w % 256) ∷ (w / 256 % 256) ∷ (w / 65536 % 256) ∷ (w / 16777216) ∷ [])

-- names a, b
unfoldable pub ab : List ℕ
ab = bytes "a\nb\n"

-- n times the letter x; a tree with a text of n bytes at the source's start
unfoldable pub xs : ℕ → List ℕ
xs n = replicate n 120

unfoldable pub around : ℕ → List ℕ
around n = 1 ∷ 2 ∷ 0 ∷ 0 ∷ 66 ∷ 1 ∷ 0 ∷ n ∷ []
