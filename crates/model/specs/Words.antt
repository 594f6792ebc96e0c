-- What an order part and a count part ask of a word of child states: document 01, "Order part" and "Count part".
use Rattle.std.specs.Prelude.{◌≡◌, ◌⊎◌, Bool, true, false, cond, not, ◌&&◌, ◌||◌, ℕ, zero, suc, ◌+◌, ◌-◌, ◌%◌, eqb, ℤ, pos, negsuc, ◌+ℤ◌, ◌*ℤ◌, ◌≤ℤ◌, length, get_or}
use mathlib.Core.List.{List, [], ◌∷◌, ◌++◌, flat_map}
use Rattle.std.proofs.Math.Option.{Option, none, some}
use Rattle.std.specs.Int.Signed.{le_z}
use Rattle.model.specs.Lists.{◌∈◌, has, only}
use Rattle.model.specs.Sheet.{Arc, Order, Coefficient, Step, at_most, remainder, not_step, and_step, or_step}

-- ---- order parts: the language of the automaton

-- arcs lead from position i along the word to position j
abbrev pub Path_of : List Arc → ℕ → List ℕ → ℕ → Type 0
Path_of arcs i [] j = i ≡ j
Path_of arcs i (q ∷ w) j = (a : Arc) × (a ∈ arcs) × (a.leaves ≡ i) × (a.reads ≡ q) × Path_of arcs a.enters w j

-- A path leads from position 0 to an accepting position. No order part means All.
abbrev pub InLanguage : Option Order → List ℕ → Type 0
InLanguage none w = Unit {0}
InLanguage (some o) w = (j : ℕ) × Path_of o.arcs 0 w j × (j ∈ o.accepting)

-- ---- order parts: the sets of positions of a run

-- the position that an arc enters, where it leaves the set and reads the state
unfoldable pub entered : List ℕ → ℕ → Arc → List ℕ
entered set q a = only (eqb a.reads q && has set a.leaves) a.enters

-- the set of positions after a child's state is read; after a word
unfoldable pub next_set : List Arc → List ℕ → ℕ → List ℕ
next_set arcs set q = flat_map (entered set q) arcs

unfoldable pub last_set : List Arc → List ℕ → List ℕ → List ℕ
last_set arcs set [] = set
last_set arcs set (q ∷ w) = last_set arcs (next_set arcs set q) w

-- two sets have a member in common
unfoldable pub meets : List ℕ → List ℕ → Bool
meets [] l = false
meets (x ∷ xs) l = has l x || meets xs l

-- Reading begins with the set of position 0 alone. The word fits if the last set holds an accepting position.
unfoldable pub fits_order : Option Order → List ℕ → Bool
fits_order none w = true
fits_order (some o) w = meets (last_set o.arcs (0 ∷ []) w) o.accepting

-- How many children a rule reads: up to and with the child that empties its set of positions; all without an order part.
abbrev pub unless_empty : List ℕ → ℕ → ℕ
unless_empty [] n = zero
unless_empty (x ∷ xs) n = n

unfoldable pub reads_from : List Arc → List ℕ → List ℕ → ℕ
reads_from arcs set [] = zero
reads_from arcs set (q ∷ w) = suc (unless_empty (next_set arcs set q) (reads_from arcs (next_set arcs set q) w))

unfoldable pub reads : Option Order → List ℕ → ℕ
reads none w = length w
reads (some o) w = reads_from o.arcs (0 ∷ []) w

-- ---- count parts: what they ask

-- how often a state occurs in a word: its Parikh mapping, #(w)
unfoldable pub occurrences : ℕ → List ℕ → ℕ
occurrences s [] = zero
occurrences s (q ∷ w) = cond (eqb s q) 1 0 + occurrences s w

-- the sum of coefficient × occurrences
unfoldable pub total : List Coefficient → List ℕ → ℤ
total [] w = pos zero
total (c ∷ cs) w = (c.times *ℤ pos (occurrences c.state w)) +ℤ total cs w

-- What a step asks of a word, by what the earlier steps ask. "At most: … true if the sum of coefficient × occurrences is at most the bound.
-- Remainder: … true if the sum is r plus a whole multiple of M. Not; and; or: one or two numbers of earlier steps, counted from 0."
abbrev pub Asks : List ℕ → List (Type 0) → Step → Type 0
Asks w earlier (at_most cs b) = total cs w ≤ℤ b
Asks w earlier (remainder cs m r) = (k : ℤ) × (total cs w ≡ pos r +ℤ (k *ℤ pos m))
Asks w earlier (not_step i) = get_or earlier i ⊥ → ⊥
Asks w earlier (and_step i j) = get_or earlier i ⊥ × get_or earlier j ⊥
Asks w earlier (or_step i j) = get_or earlier i ⊥ ⊎ get_or earlier j ⊥

-- "The last step decides."
abbrev pub LastAsks : List ℕ → List (Type 0) → List Step → Type 0
LastAsks w earlier [] = ⊥
LastAsks w earlier (s ∷ []) = Asks w earlier s
LastAsks w earlier (s ∷ t ∷ ss) = LastAsks w (earlier ++ (Asks w earlier s ∷ [])) (t ∷ ss)

-- A count part φ is satisfied by a word w: ⊨ φ#(w) in source document 001. No count part means True.
abbrev pub Satisfied : Option (List Step) → List ℕ → Type 0
Satisfied none w = Unit {0}
Satisfied (some ss) w = LastAsks w [] ss

-- ---- count parts: the test of a run

-- what a number leaves on division by m, never negative (negsuc n is −1 − n)
unfoldable pub remainder_of : ℤ → ℕ → ℕ
remainder_of (pos n) m = n % m
remainder_of (negsuc n) m = m - 1 - n % m

-- a step's truth, by the truths of the earlier steps
unfoldable pub holds : List ℕ → List Bool → Step → Bool
holds w earlier (at_most cs b) = le_z (total cs w) b
holds w earlier (remainder cs m r) = eqb (remainder_of (total cs w) m) r
holds w earlier (not_step i) = not (get_or earlier i false)
holds w earlier (and_step i j) = get_or earlier i false && get_or earlier j false
holds w earlier (or_step i j) = get_or earlier i false || get_or earlier j false

unfoldable pub truths : List ℕ → List Bool → List Step → List Bool
truths w earlier [] = earlier
truths w earlier (s ∷ ss) = truths w (earlier ++ (holds w earlier s ∷ [])) ss

-- The last step decides. No count part means True.
unfoldable pub fits_count : Option (List Step) → List ℕ → Bool
fits_count none w = true
fits_count (some ss) w = get_or (truths w [] ss) (length ss - 1) false
