-- Swapping and joining sheets: document 01, "Swapping and joining". Swapping complements the final states; a join is the
-- product of two automata (source document 001, section 5), with the pairs of final states final.
use Rattle.std.specs.Prelude.{not, ℕ, zero, ◌+◌, ◌-◌, ◌*◌, ◌/◌, ◌%◌, ◌≤◌, eqb, leb, length}
use mathlib.Core.List.{List, [], ◌∷◌, ◌++◌, map, flat_map}
use Rattle.std.proofs.Math.Option.{Option, none, some}
use Rattle.model.specs.Lists.{◌∈◌, has, every, only, numbers, grid}
use Rattle.model.specs.Answers.{Checked, require, ◌>>◌}
use Rattle.model.specs.Sheet.{Sheet, Rule, one, two, three, Order, Arc, Coefficient, Step, at_most, remainder, not_step, and_step}
use Rattle.model.specs.Sheet.{or_step, sheet_words}

-- Swapping turns every final bit below p.
unfoldable pub swapped : Sheet → Sheet
swapped s = record {
  states = s.states;
  final = flat_map (λ q. only (not (has s.final q)) q) (numbers s.states);
  tags = s.tags;
  rules = s.rules;
}

-- ---- pairs and their halves

-- the pair (s, t) is s × p of T + t; positions are numbered likewise
abbrev pub pair : ℕ → ℕ → ℕ → ℕ
pair p s t = s * p + t

-- the two sheets of a join
pub data Side : Type 0 where
  S T : Side

-- a side's half of a pair; the pair of a state of a side and a state of the other (p: states of T)
abbrev pub half : Side → ℕ → ℕ → ℕ
half S p x = x / p
half T p x = x % p

abbrev pub beside : Side → ℕ → ℕ → ℕ → ℕ
beside S p q other = pair p q other
beside T p q other = pair p other q

-- the numbers of states of the two sheets; of a side's sheet; of the other sheet; of pairs of states
pub record Sizes : Type 0 where
  pub of_S : ℕ
  pub of_T : ℕ

abbrev pub of_side : Side → Sizes → ℕ
of_side S n = n.of_S
of_side T n = n.of_T

abbrev pub of_other : Side → Sizes → ℕ
of_other S n = n.of_T
of_other T n = n.of_S

abbrev pub of_pairs : Sizes → ℕ
of_pairs n = n.of_S * n.of_T

-- ---- order parts

-- one alone is lifted, each arc once for each state of the other sheet, ascending
abbrev pub lift_arc : Side → Sizes → Arc → ℕ → Arc
lift_arc side n a other = record { leaves = a.leaves; reads = beside side n.of_T a.reads other; enters = a.enters }

unfoldable pub lift_order : Side → Sizes → Order → Order
lift_order side n o = record {
  positions = o.positions;
  accepting = o.accepting;
  arcs = grid (lift_arc side n) o.arcs (numbers (of_other side n));
}

-- two give the pairs of positions, accepting if both are, and of arcs, S outermost
abbrev pub pair_arc : ℕ → ℕ → Arc → Arc → Arc
pair_arc m p a b = record {
  leaves = pair m a.leaves b.leaves;
  reads = pair p a.reads b.reads;
  enters = pair m a.enters b.enters;
}

unfoldable pub pair_order : Sizes → Order → Order → Order
pair_order n o u = record {
  positions = o.positions * u.positions;
  accepting = grid (pair u.positions) o.accepting u.accepting;
  arcs = grid (pair_arc u.positions n.of_T) o.arcs u.arcs;
}

unfoldable pub joint_order : Sizes → Option Order → Option Order → Option Order
joint_order n none none = none
joint_order n (some o) none = some (lift_order S n o)
joint_order n none (some u) = some (lift_order T n u)
joint_order n (some o) (some u) = some (pair_order n o u)

-- ---- count parts

-- in a lifted count part each pair has the coefficient of its half
unfoldable pub coefficient_of : List Coefficient → ℕ → ℕ → List Coefficient
coefficient_of cs q x = flat_map (λ c. only (eqb c.state q) (record { state = x; times = c.times })) cs

unfoldable pub lift_sum : Side → Sizes → List Coefficient → List Coefficient
lift_sum side n cs = flat_map (λ x. coefficient_of cs (half side n.of_T x) x) (numbers (n.of_S * n.of_T))

-- a lifted step, its step numbers shifted
unfoldable pub lift_step : Side → Sizes → (shift : ℕ) → Step → Step
lift_step side n shift (at_most cs b) = at_most (lift_sum side n cs) b
lift_step side n shift (remainder cs m r) = remainder (lift_sum side n cs) m r
lift_step side n shift (not_step i) = not_step (shift + i)
lift_step side n shift (and_step i j) = and_step (shift + i) (shift + j)
lift_step side n shift (or_step i j) = or_step (shift + i) (shift + j)

-- two count parts, both lifted, stand S first, step numbers shifted, closed by an and
unfoldable pub joint_count : Sizes → Option (List Step) → Option (List Step) → Option (List Step)
joint_count n none none = none
joint_count n (some ss) none = some (map (lift_step S n 0) ss)
joint_count n none (some ts) = some (map (lift_step T n 0) ts)
joint_count n (some ss) (some ts) =
    some (map (lift_step S n 0) ss ++ (map (lift_step T n (length ss)) ts ++ (and_step (length ss - 1) (length ss + (length ts - 1)) ∷ [])))

-- ---- rules and sheets

-- Rules pair up if both are kind one with equal text kind, kind two with equal tag, or kind three.
unfoldable pub pair_rule : Sizes → Rule → Rule → List Rule
pair_rule n (one k s) (one j t) = only (eqb k j) (one k (pair n.of_T s t))
pair_rule n (one k s) (two b d t) = []
pair_rule n (one k s) (three u ψ t) = []
pair_rule n (two a c s) (one j t) = []
pair_rule n (two a c s) (two b d t) = only (eqb a b) (two a (pair n.of_T c d) (pair n.of_T s t))
pair_rule n (two a c s) (three u ψ t) = []
pair_rule n (three o φ s) (one j t) = []
pair_rule n (three o φ s) (two b d t) = []
pair_rule n (three o φ s) (three u ψ t) = three (joint_order n o u) (joint_count n φ ψ) (pair n.of_T s t) ∷ []

-- S's order outermost
unfoldable pub joint_rules : Sizes → List Rule → List Rule → List Rule
joint_rules n R Q = flat_map (λ r. flat_map (pair_rule n r) Q) R

abbrev pub sizes : Sheet → Sheet → Sizes
sizes s t = record { of_S = s.states; of_T = t.states }

-- a pair is final if both are
unfoldable pub joint : Sheet → Sheet → Sheet
joint s t = record {
  states = s.states * t.states;
  final = grid (pair t.states) s.final t.final;
  tags = s.tags;
  rules = joint_rules (sizes s t) s.rules t.rules;
}

-- ---- 21: the joint sheet over a limit

-- of each rule: its positions, arcs and steps
unfoldable pub positions_of : Rule → ℕ
positions_of (one k q) = zero
positions_of (two a c q) = zero
positions_of (three none c q) = zero
positions_of (three (some o) c q) = o.positions

unfoldable pub arcs_of : Rule → ℕ
arcs_of (one k q) = zero
arcs_of (two a c q) = zero
arcs_of (three none c q) = zero
arcs_of (three (some o) c q) = length o.arcs

unfoldable pub steps_of : Rule → ℕ
steps_of (one k q) = zero
steps_of (two a c q) = zero
steps_of (three o none q) = zero
steps_of (three o (some ss) q) = length ss

-- place 1 states, 2 rules, 3 positions, 4 arcs, 5 steps, 6 words, the first of these
unfoldable pub within_limits : Sheet → Checked (Unit {0})
within_limits j = do
  require (leb j.states 64) 21 1
  require (leb (length j.rules) 1024) 21 2
  require (every (λ r. leb (positions_of r) 64) j.rules) 21 3
  require (every (λ r. leb (arcs_of r) 1024) j.rules) 21 4
  require (every (λ r. leb (steps_of r) 32) j.rules) 21 5
  require (leb (length (sheet_words j)) 16384) 21 6

-- these limits as ranges: at most 64 states, 1,024 rules and 16,384 words; in each rule at most 64 positions, 1,024 arcs and 32 steps
pub record Limits (j : Sheet) : Type 0 where
  pub states : j.states ≤ 64
  pub rules : length j.rules ≤ 1024
  pub positions : (r : Rule) → r ∈ j.rules → positions_of r ≤ 64
  pub arcs : (r : Rule) → r ∈ j.rules → arcs_of r ≤ 1024
  pub steps : (r : Rule) → r ∈ j.rules → steps_of r ≤ 32
  pub words : length (sheet_words j) ≤ 16384
