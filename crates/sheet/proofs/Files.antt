-- What the check of a file's whole words tells of the file.
use mathlib.Core.Path.{◌≡◌, refl}
use mathlib.Core.Logic.{◌⊎◌, inl, inr, ⊎_elim, by_cases}
use mathlib.Core.Bool.{cond}
use mathlib.Core.List.{List, [], ◌∷◌, ◌++◌, append-nil}
use Prim.Native.Nat.{ℕ, suc, ◌*◌, ◌/◌, min}
use native.Mathlib.Decide.{dec_le}
use native.Mathlib.Nat.{eq-or-lt_of_le}
use native.Mathlib.Omega.{arith}
use lib.Dec.{eqb}
use lib.ListN.{length, take, drop, take-append-drop}
use lib.Seq.{take_all, length-take-le}
use borrow.Author.Tests as tests
use Rattle.model.specs.Answers.{Checked, passes, refuses, ◌>>=◌}
use Rattle.model.specs.Sheet.{Sheet, Got, W, sheet, ended, sheet_of, file_words}
use Rattle.model.proofs.Tests.{eqb_like}
use Rattle.sheet_file.proofs.FileWords.{file-length}
use Rattle.sheet.proofs.Over.{over, Alike, both_got, both_bad, closed-sheet}

-- behind the whole words
rest : (b : List ℕ) → (drop (length b / 4) (file_words b) ≡ []) ⊎ (drop (length b / 4) (file_words b) ≡ W ∷ [])
unfolding file_words
rest [] = inl refl
rest (a ∷ []) = inr refl
rest (a ∷ b ∷ []) = inr refl
rest (a ∷ b ∷ c ∷ []) = inr refl
rest (a ∷ b ∷ c ∷ d ∷ r) =
    let e : suc (suc (suc (suc (length r)))) / 4 ≡ suc (length r / 4) = omega arith in
    rw e (rest r)

-- ---- the check of a file's whole words, at most 16,384 of them

module _ (b : List ℕ) {n : ℕ} (en : n ≡ min (length b / 4) 16384) where
  abbrev whole : List ℕ
  whole = take n (file_words b)

  pub whole_length : length whole ≡ n
  whole_length = length-take-le n (file_words b) (omega (arith, file-length b))

  -- reading the words that a check takes is reading the whole words among them
  reading : Alike n (sheet (take 16384 (file_words b)) 0) (sheet whole 0)
  reading = by_cases (dec_le 16384 (length b / 4)) (λ h. let i : n ≡ 16384 = omega arith in rw (← i) (self over-or-not)) (λ h.
      let i : n ≡ length b / 4 = omega arith in
      let last : (drop n (file_words b) ≡ []) ⊎ (drop n (file_words b) ≡ W ∷ []) = rw i (rest b) in
      let more : Alike n (sheet (whole ++ drop n (file_words b)) 0) (sheet whole 0)
      = ⊎_elim (λ e. rw e (rw (append-nil whole) (self over-or-not))) (λ e. rw e over-or-not) last in
      rw (take_all 16384 (file_words b) (omega (arith, file-length b))) (rw (take-append-drop n (file_words b)) at more))
    where
      over-or-not : Alike n (sheet (over whole) 0) (sheet whole 0)
      over-or-not = rw whole_length at (closed-sheet.alike whole 0 (omega arith))

      self : {g e : Got Sheet} → Alike n g e → Alike n e e
      self (both_got t l) = both_got t l
      self (both_bad l) = both_bad l

  -- a file is a sheet if its whole words are and no byte is left; else the place after them is bad
  abbrev no_more : Sheet → Checked Sheet
  no_more t = cond (eqb (n * 4) (length b)) (passes t) (refuses 9 n)

  pub file-sheet : sheet_of (file_words b) ≡ (sheet_of whole >>= λ t. no_more t)
  unfolding sheet_of ended ◌>>=◌
  file-sheet = rw (take_all 16384 whole (omega (arith, whole_length)), whole_length) (go reading)
    where
      go : {g e : Got Sheet} → Alike n g e → ended (length (file_words b)) g ≡ (ended n e >>= λ t. no_more t)
      go (both_bad l) = refl
      go (both_got t {n = a} l) =
          let f = file-length b in
          ⊎_elim
          (λ e. rw (e, tests.eq-eqb n n refl, eqb_like n (length (file_words b)) (n * 4) (length b) (λ d. omega arith) (λ d. omega arith)))
          (λ m. rw (tests.ne_eqb a n (omega arith), tests.ne_eqb a (length (file_words b)) (omega arith)))
          (eq-or-lt_of_le l)

  -- where no byte is left, they are the file's words
  pub file_whole : n * 4 ≡ length b → whole ≡ file_words b
  file_whole h = take_all n (file_words b) (omega (arith, file-length b))
