-- The looks of an element are bounded by the rules and the number of its children.
use mathlib.Core.Path.{◌≡◌, refl}
use mathlib.Core.Bool.{cond}
use mathlib.Core.List.{List, [], ◌∷◌}
use mathlib.Core.Option.{Option, none, some}
use Prim.Native.Nat.{ℕ, suc, ◌+◌, ◌*◌, ◌≤◌}
use native.Mathlib.Omega.{arith}
use lib.Dec.{eqb}
use lib.ListN.{length}
use Rattle.model.specs.Sheet.{Arc, Order, Rule, one, two, three}
use Rattle.model.specs.Words.{next_set, unless_empty, reads_from, reads}
use Rattle.model.specs.Run.{content_targets, kind, of_kind, looks_of, tries, unless_one, unless_none, element_looks}

-- every rule is of one of the three kinds
pub kinds : (R : List Rule) → of_kind 1 R + of_kind 2 R + of_kind 3 R ≡ length R
unfolding of_kind kind
kinds [] = refl
kinds (one k q ∷ R) = omega (arith, kinds R)
kinds (two a c q ∷ R) = omega (arith, kinds R)
kinds (three o c q ∷ R) = omega (arith, kinds R)

-- a rule reads no child twice
reads-from-≤ : (arcs : List Arc) (set w : List ℕ) → reads_from arcs set w ≤ length w
unfolding reads_from
reads-from-≤ arcs set [] = omega arith
reads-from-≤ arcs set (q ∷ w) = go (next_set arcs set q) (reads_from arcs (next_set arcs set q) w)
    (reads-from-≤ arcs (next_set arcs set q) w)
  where
    go : (s : List ℕ) (n : ℕ) → n ≤ length w → suc (unless_empty s n) ≤ suc (length w)
    go [] n h = omega arith
    go (x ∷ s) n h = omega arith

reads-≤ : (o : Option Order) (w : List ℕ) → reads o w ≤ length w
unfolding reads
reads-≤ none w = omega arith
reads-≤ (some o) w = reads-from-≤ o.arcs (0 ∷ []) w

looks_of_≤ : (w : List ℕ) (r : Rule) → looks_of w r ≤ cond (eqb (kind r) 3) 1 0 * suc (length w)
unfolding looks_of kind
looks_of_≤ w (one k q) = omega arith
looks_of_≤ w (two a c q) = omega arith
looks_of_≤ w (three o c q) = omega (arith, reads-≤ o w)

tries-≤ : (R : List Rule) (w : List ℕ) → tries R w ≤ of_kind 3 R * suc (length w)
unfolding tries of_kind
tries-≤ [] w = omega arith
tries-≤ (r ∷ R) w = omega (arith, looks_of_≤ w r, tries-≤ R w)

unless_one_≤ : (w : List ℕ) (n : ℕ) → unless_one w n ≤ n
unless_one_≤ [] n = omega arith
unless_one_≤ (q ∷ []) n = omega arith
unless_one_≤ (q ∷ r ∷ w) n = omega arith

unless_none_≤ : (l : List ℕ) (n : ℕ) → unless_none l n ≤ n
unless_none_≤ [] n = omega arith
unless_none_≤ (q ∷ l) n = omega arith

pub element_looks_≤ : (R : List Rule) (w : List ℕ) → element_looks R (some w) ≤ of_kind 3 R * suc (length w) + of_kind 2 R
unfolding element_looks
element_looks_≤ R w = omega (arith, unless_one_≤ w (tries R w), unless_none_≤ (content_targets R w) (of_kind 2 R), tries-≤ R w)
