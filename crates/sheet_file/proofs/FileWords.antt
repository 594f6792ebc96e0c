-- A file's words, by index.
use mathlib.Core.Path.{◌≡◌, refl}
use mathlib.Core.List.{List, [], ◌∷◌, ◌++◌}
use Prim.Native.Nat.{ℕ, zero, suc, ◌+◌, ◌*◌, ◌/◌, ◌^◌, ◌<◌, ◌≤◌}
use native.Mathlib.Nat.{zero-add}
use native.Mathlib.Numerals.{add-one}
use native.Mathlib.Omega.{arith}
use lib.ListN.{length, get_or, set, take, drop}
use lib.Seq.{paste-suc}
use Rattle.std.specs.Simd.{first_chunks}
use Rattle.model.specs.Sheet.{file_words}

-- bytes over count as a word
pub file-length : (b : List ℕ) → length (file_words b) ≡ (length b + 3) / 4
unfolding file_words
file-length [] = refl
file-length (a ∷ []) = refl
file-length (a ∷ b ∷ []) = refl
file-length (a ∷ b ∷ c ∷ []) = refl
file-length (a ∷ b ∷ c ∷ d ∷ r) = let h = file-length r in omega arith

-- the word of four bytes
abbrev pub word_of : List ℕ → ℕ
word_of b = get_or b 0 0 + get_or b 1 0 * 2 ^ 8 + get_or b 2 0 * 2 ^ 16 + get_or b 3 0 * 2 ^ 24

-- word i is that of chunk i
pub chunk_word : (k : ℕ) (b : List ℕ) (i : ℕ) → k * 4 ≤ length b → i < k
    → word_of (get_or (first_chunks 4 k b) i []) ≡ get_or (file_words b) i 0
unfolding file_words
chunk_word zero b i h l = absurd (omega arith)
chunk_word (suc k) [] i h l = absurd (omega arith)
chunk_word (suc k) (a ∷ []) i h l = absurd (omega arith)
chunk_word (suc k) (a ∷ b ∷ []) i h l = absurd (omega arith)
chunk_word (suc k) (a ∷ b ∷ c ∷ []) i h l = absurd (omega arith)
chunk_word (suc k) (a ∷ b ∷ c ∷ d ∷ r) zero h l = omega arith
chunk_word (suc k) (a ∷ b ∷ c ∷ d ∷ r) (suc i) h l = chunk_word k r i (omega arith) (omega arith)

-- one more word at the front of a buffer
pub front_more : (b d : List ℕ) {words : List ℕ} {i v : ℕ} → words ≡ take i (file_words b) ++ drop i d → i * 4 + 4 ≤ length b → i < length d
    → v ≡ get_or (file_words b) i 0 → set words i v ≡ take (i + 1) (file_words b) ++ drop (i + 1) d
front_more b d {i = i} ew hb hd ev =
    rw (ew, ev, add-one i) (simp zero-add at (paste-suc d 0 (file_words b) i 0 (omega arith) (omega (arith, file-length b))))
