-- Scans of bytes: what the definitions say of a list from an offset on.
use mathlib.Core.Path.{◌≡◌, refl, ap, ◌∙◌}
use mathlib.Core.Logic.{◌≢◌}
use mathlib.Core.Bool.{Bool, true, false, ◌&&◌}
use mathlib.Core.List.{List, [], ◌∷◌}
use Prim.Native.Nat.{ℕ, zero, suc, ◌+◌, ◌≤◌, ◌<◌}
use native.Mathlib.Numerals.{add-one}
use native.Mathlib.Omega.{arith}
use lib.Dec.{eqb}
use lib.ListN.{length, get_or, drop, drop_of_length-le}
use lib.Seq.{drop-cons}
use borrow.Author.Tests.{eq-eqb, ne_eqb}
use Rattle.model.specs.Bytes.{same_bytes}
use Rattle.model.specs.Names.{lines, prepend}
use Rattle.offsets.specs.Lines.{line}

-- the bytes from offset i on
pub here : (s : List ℕ) (i : ℕ) → i < length s → drop i s ≡ get_or s i 0 ∷ drop (i + 1) s
here s i h = rw (add-one, drop-cons s i 0)

-- ---- the first line

prepend-first : (b : ℕ) (ls : List (List ℕ)) → get_or (prepend b ls) 0 [] ≡ b ∷ get_or ls 0 []
unfolding prepend
prepend-first b [] = refl
prepend-first b (l ∷ ls) = refl

fed : (b : ℕ) (s : List ℕ) → b ≡ 10 → length (line (b ∷ s) 0) ≡ 1
unfolding lines
fed b s e = rw (eq-eqb _ _ e)

goes_on : (b : ℕ) (s : List ℕ) → b ≢ 10 → length (line (b ∷ s) 0) ≡ suc (length (line s 0))
unfolding lines
goes_on b s e = rw (ne_eqb _ _ e) (ap length (prepend-first b (lines s)))

-- it ends with the first line feed, or with the list
pub line_fed : (s : List ℕ) (i : ℕ) → i < length s → get_or s i 0 ≡ 10 → ((k : ℕ) → k < i → get_or s k 0 ≢ 10) → length (line s 0) ≡ i + 1
line_fed [] i h e others = absurd (omega arith)
line_fed (b ∷ s) zero h e others = fed b s e
line_fed (b ∷ s) (suc i) h e others =
    omega (arith, goes_on b s (others 0 (omega arith)), line_fed s i (omega arith) e (λ k l. others (suc k) (omega arith)))

pub line_unfed : (s : List ℕ) → ((k : ℕ) → k < length s → get_or s k 0 ≢ 10) → length (line s 0) ≡ length s
unfolding lines
line_unfed [] others = refl
line_unfed (b ∷ s) others = goes_on b s (others 0 (omega arith)) ∙ ap suc (line_unfed s (λ k l. others (suc k) (omega arith)))

pub lines_end : (s : List ℕ) (i : ℕ) → length s ≤ i → lines (drop i s) ≡ []
unfolding lines
lines_end s i h = rw (drop_of_length-le s h)

-- ---- two lists of bytes

module _ (a b : List ℕ) (i : ℕ) where
  pub same_yes : i < length a → i < length b → get_or a i 0 ≡ get_or b i 0 → same_bytes (drop i a) (drop i b) ≡ same_bytes (drop (i + 1) a)
      (drop (i + 1) b)
  unfolding same_bytes
  same_yes h k e = rw (here a i h, here b i k, eq-eqb _ _ e)

  pub same_no : i < length a → i < length b → get_or a i 0 ≢ get_or b i 0 → same_bytes (drop i a) (drop i b) ≡ false
  unfolding same_bytes
  same_no h k e = rw (here a i h, here b i k, ne_eqb _ _ e)

  pub same_none : length a ≤ i → length b ≤ i → same_bytes (drop i a) (drop i b) ≡ true
  unfolding same_bytes
  same_none h k = rw (drop_of_length-le a h, drop_of_length-le b k)

and-false : (t : Bool) {u : Bool} → u ≡ false → (t && u) ≡ false
and-false true e = e
and-false false e = refl

pub same_length : (a b : List ℕ) → length a ≢ length b → same_bytes a b ≡ false
unfolding same_bytes
same_length [] [] n = absurd (n (omega arith))
same_length [] (y ∷ b) n = refl
same_length (x ∷ a) [] n = refl
same_length (x ∷ a) (y ∷ b) n = and-false (eqb x y) (same_length a b (λ e. n (ap suc e)))
