-- What the answer of the check tells: the index that is left, and the answer and the buffer of a sheet from a file.
use mathlib.Core.Path.{◌≡◌, sym, ap, ◌∙◌}
use mathlib.Core.Bool.{cond}
use mathlib.Core.List.{List, ◌++◌}
use Prim.Native.Nat.{ℕ, ◌*◌, ◌/◌, ◌<◌, ◌≤◌, min}
use lib.Dec.{eqb}
use lib.ListN.{length, take, drop}
use lib.Seq.{take_at}
use borrow.Author.Tests as tests
use Rattle.model.specs.declared.Refusal.{Refusal}
use Rattle.std.specs.Prelude.{Ok, Err}
use Rattle.model.specs.Answers.{Answer, Said, count, refusal, said_refusal, said, passes, refuses, ◌>>=◌, ◌>>◌, require}
use Rattle.model.specs.Answers.{room_for, answer_of}
use Rattle.model.specs.Answers.{buffer_after}
use Rattle.model.specs.Sheet.{Sheet, sheet_of, file_words}
use Rattle.model.specs.Index.{sheet_in, Passes, index_words, index_after}
use Rattle.model.specs.Calls.{sheet_said, from_file, from_file_said, from_file_sheet}
use Rattle.sheet.proofs.Files.{whole_length, file-sheet, file_whole}
use Rattle.model.proofs.Answered.{sheet-counted, sheet-refused}
use Rattle.model.proofs.PassedLaws.{passes_in}

-- ---- the index

module _ (s : List ℕ) {r : Answer} (e : said r ≡ sheet_said s) where
  pub passes_counted : {n : ℕ} → r ≡ Ok n → Passes s
  passes_counted f = let (_, (t, h)) = sheet-counted s e f in (passes_in h).0

  pub index-refused : (index : List ℕ) {x : Refusal} → r ≡ Err x → (said (Err x) ≡ sheet_said s) × (index ≡ index_after index s)
  unfolding index_after ◌>>=◌ buffer_after
  index-refused index f = let (_, h, _) = sheet-refused s e f in (rw f at e, rw h)

  pub index_left : (index : List ℕ) {left : List ℕ} {n : ℕ} → r ≡ Ok n → left ≡ buffer_after index (passes (index_words (sheet_in s)))
      → (said (Ok n) ≡ sheet_said s) × (left ≡ index_after index s)
  unfolding index_after ◌>>=◌
  index_left index f h = (rw f at e, rw (passes_counted f).as_sheet h)

-- ---- a sheet from a file: r is the check's answer on its whole words

-- the call on bytes b and buffer d says x and leaves the buffer y
abbrev pub Gives : (b d : List ℕ) → Said → List ℕ → Type 0
Gives b d x y = (x ≡ from_file_said b d) × (y ≡ from_file_sheet b d)

-- the whole words stand at the front of a buffer
module _ (b room : List ℕ) {room' : List ℕ} {n : ℕ} (en : n ≡ min (length b / 4) 16384)
    (er : room' ≡ take n (file_words b) ++ drop n room) where
  pub front : take n room' ≡ take n (file_words b)
  front = ap (take n) er ∙ take_at (take n (file_words b)) (drop n room) n (whole_length b en)

  pub front_length : n ≡ length (take n room')
  front_length = sym (ap length front ∙ whole_length b en)

-- r is the check's answer on them
module _ (b d room : List ℕ) {room' : List ℕ} {n : ℕ} {r : Answer} (en : n ≡ min (length b / 4) 16384)
    (er : room' ≡ take n (file_words b) ++ drop n room) (ec : said r ≡ sheet_said (take n room')) where
  pub answers_refusal : {x : Refusal} → r ≡ Err x → Gives b d (said_refusal x) d
  unfolding from_file_said from_file_sheet from_file ◌>>=◌ answer_of buffer_after
  answers_refusal h =
      let (i, s, x) = sheet-refused (take n (file_words b)) (ec ∙ ap sheet_said (front b room en er)) h in
      let f : sheet_of (file_words b) ≡ refuses 9 i = file-sheet b en ∙ rw s in
      rw x (rw f, rw f)

  module _ {m : ℕ} (h : r ≡ Ok m) where
    counted : (t : Sheet) × (sheet_of (file_words b) ≡ cond (eqb (n * 4) (length b)) (passes t) (refuses 9 n))
    unfolding ◌>>=◌
    counted =
        let (_, (t, s)) = sheet-counted (take n (file_words b)) (ec ∙ ap sheet_said (front b room en er)) h in
        (t, file-sheet b en ∙ rw s)

    pub answers_over : (n * 4 ≡ length b → ⊥) → Gives b d (refusal 9 n) d
    unfolding from_file_said from_file_sheet from_file ◌>>=◌ answer_of buffer_after
    answers_over over = let f = tests.ne_eqb (n * 4) (length b) over in (rw (counted.1, f), rw (counted.1, f))

    module _ (all : n * 4 ≡ length b) where
      passed : (t : Sheet) × (sheet_of (file_words b) ≡ passes t)
      passed = (counted.0, counted.1 ∙ rw (tests.eq-eqb (n * 4) (length b) all))

      size : length (file_words b) ≡ n
      size = ap length (sym (file_whole b en all)) ∙ whole_length b en

      pub answers_short : length d < n → Gives b d (refusal 22 n) d
      unfolding from_file_said from_file_sheet from_file ◌>>=◌ ◌>>◌ require room_for answer_of buffer_after
      answers_short l = let f = tests.lt-leb n (length d) l in (rw (passed.1, size, f), rw (passed.1, size, f))

      pub answers_count : n ≤ length d → {left : List ℕ} → left ≡ take n (file_words b) ++ drop n d → Gives b d (count n) left
      unfolding from_file_said from_file_sheet from_file ◌>>=◌ ◌>>◌ require room_for answer_of buffer_after
      answers_count l e =
          let f = tests.le-leb n (length d) l in
          (rw (passed.1, size, f, size), e ∙ rw (passed.1, size, f, size, file_whole b en all))
