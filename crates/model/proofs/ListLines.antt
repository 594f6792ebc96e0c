-- The lines of a list of bytes, one after another.
use mathlib.Core.Path.{◌≡◌, refl, sym, subst}
use mathlib.Core.Bool.{false}
use mathlib.Core.List.{List, [], ◌∷◌, ◌++◌}
use Prim.Native.Nat.{ℕ}
use lib.Dec.{eqb}
use lib.ListN.{length, get_or, drop}
use Rattle.model.specs.Bytes.{line_feed}
use Rattle.model.specs.Names.{prepend, lines}
use Rattle.model.proofs.Tests.{Told, yea, nay, told, same}

-- bytes without a line feed
abbrev pub Free : List ℕ → Type 0
Free [] = Unit {0}
Free (b ∷ l) = (eqb b line_feed ≡ false) × Free l

-- bytes line by line; the last line may lack its line feed
pub data Lines : List ℕ → Type 0 where
  no_line : Lines []
  open_line : (b : ℕ) (l : List ℕ) → Free (b ∷ l) → Lines (b ∷ l)
  line : (l rest : List ℕ) → Free l → Lines rest → Lines (l ++ (line_feed ∷ rest))

one_more : (b : ℕ) {s : List ℕ} → Told (eqb b line_feed) → Lines s → Lines (b ∷ s)
one_more b {s} (yea t) v = subst (λ (x : ℕ). Lines (x ∷ s)) (sym (same b line_feed t)) (line [] s tt v)
one_more b (nay t) no_line = open_line b [] (t, tt)
one_more b (nay t) (open_line c l f) = open_line b (c ∷ l) (t, f)
one_more b (nay t) (line l rest f v) = line (b ∷ l) rest (t, f) v

pub by_lines : (s : List ℕ) → Lines s
by_lines [] = no_line
by_lines (b ∷ s) = one_more b (told (eqb b line_feed)) (by_lines s)

abbrev pub ended-line : List ℕ → List ℕ
ended-line l = l ++ (line_feed ∷ [])

-- a line and the lines after it; a line that lacks its line feed goes on with what follows
pub line_first : (l rest : List ℕ) → Free l → lines (l ++ (line_feed ∷ rest)) ≡ ended-line l ∷ lines rest
unfolding lines prepend
line_first [] rest f = refl
line_first (b ∷ l) rest (t, f) = rw (t, line_first l rest f)

prepended : (b : ℕ) (ls : List (List ℕ)) → prepend b ls ≡ (b ∷ get_or ls 0 []) ∷ drop 1 ls
unfolding prepend
prepended b [] = refl
prepended b (l ∷ ls) = refl

pub open_first : (b : ℕ) (l more : List ℕ) → Free (b ∷ l)
    → lines ((b ∷ l) ++ more) ≡ ((b ∷ l) ++ get_or (lines more) 0 []) ∷ drop 1 (lines more)
unfolding lines prepend
open_first b [] more (t, f) = rw t (prepended b (lines more))
open_first b (c ∷ l) more (t, f) = rw (t, open_first c l more f)

pub last_free : (b : ℕ) (l : List ℕ) → Free (b ∷ l) → eqb (get_or (b ∷ l) (length l) 0) line_feed ≡ false
last_free b [] (t, f) = t
last_free b (c ∷ l) (t, f) = last_free c l f
