-- What the limits on a joint sheet say; a joint sheet within them is in its ranges; how many rules it has.
use mathlib.Core.Path.{◌≡◌, refl, sym, ap, ◌∙◌, subst, fun_ext}
use mathlib.Core.Logic.{◌↔◌}
use mathlib.Core.Bool.{Bool, true, false, ◌||◌}
use mathlib.Core.List.{List, [], ◌∷◌, ◌++◌, map, flat_map}
use mathlib.Core.Option.{Option, none, some}
use Prim.Native.Nat.{ℕ, suc, ◌+◌, ◌-◌, ◌*◌, ◌≤◌, ◌<◌}
use native.Mathlib.Nat.{mul-pos}
use native.Mathlib.Omega.{arith}
use lib.Arith.{digits_lt}
use lib.Dec.{eqb, leb}
use lib.IntN.{ℤ}
use lib.ListN.{length, length-append, length-map}
use borrow.Author.Tests as tests
use Rattle.model.specs.Lists.{◌∈◌, has, every, only, numbers, grid, Ascending, SetBelow}
use Rattle.model.specs.Answers.{passes}
use Rattle.model.specs.Sheet.{Sheet, Rule, one, two, three, Order, Coefficient, Step, at_most, remainder, not_step, and_step, or_step}
use Rattle.model.specs.Sheet.{marks, small, ArcInRange, OrderInRange, SumInRange, StepInRange, StepsInRange, CountInRange, IfAny}
use Rattle.model.specs.Sheet.{RuleInRange, InRange}
use Rattle.model.specs.Compose.{pair, Side, S, T, half, Sizes, of_other, lift_arc, lift_order, pair_arc, pair_order, joint_order}
use Rattle.model.specs.Compose.{coefficient_of, lift_sum, lift_step, joint_count, pair_rule, joint_rules, sizes, joint, positions_of}
use Rattle.model.specs.Compose.{arcs_of, steps_of, within_limits, Limits, of_side, of_pairs}
use Rattle.model.proofs.Tests.{Yes, never, same, eqb_like}
use Rattle.model.proofs.ListLaws.{every-∈, ∈-every, only_eq, each-∈, length-each, map-append, numbers-<, grid-∈, asc_filter}
use Rattle.model.proofs.ListLaws.{asc_grid, has_no, map_each, length-only}
use Rattle.model.proofs.CheckLaws.{require-is, required}
use Rattle.model.proofs.Pairs.{either, on_both, beside-below}
use Rattle.model.proofs.Product.{Paired, ones, twos, threes, joint-∈}

-- ---- the limits

-- a test of every rule
all-at-most : (f : Rule → ℕ) (k : ℕ) (l : List Rule) → Yes (every (λ r. leb (f r) k) l) ↔ ((r : Rule) → r ∈ l → f r ≤ k)
all-at-most f k l = (
  λ h r m. tests.leb-true (f r) k (every-∈ (λ r. leb (f r) k) h r m),
  λ h. ∈-every (λ r. leb (f r) k) l (λ r m. tests.le-leb (f r) k (h r m)),
)

pub limits_inv : (j : Sheet) → (within_limits j ≡ passes tt) ↔ Limits j
unfolding within_limits
limits_inv j = (there, back)
  where
    there : within_limits j ≡ passes tt → Limits j
    there h =
        let (a, h₁) = (required _ _ _ _).0 h in
        let (b, h₂) = (required _ _ _ _).0 h₁ in
        let (c, h₃) = (required _ _ _ _).0 h₂ in
        let (d, h₄) = (required _ _ _ _).0 h₃ in
        let (e, h₅) = (required _ _ _ _).0 h₄ in
        record {
          states = tests.leb-true _ _ a;
          rules = tests.leb-true _ _ b;
          positions = (all-at-most positions_of 64 j.rules).0 c;
          arcs = (all-at-most arcs_of 1024 j.rules).0 d;
          steps = (all-at-most steps_of 32 j.rules).0 e;
          words = tests.leb-true _ _ ((require-is _ _ _).0 h₅);
        }

    back : Limits j → within_limits j ≡ passes tt
    back l =
        let f = (require-is _ 21 6).1 (tests.le-leb _ _ l.words) in
        let e = (required _ 21 5 _).1 ((all-at-most steps_of 32 j.rules).1 l.steps, f) in
        let d = (required _ 21 4 _).1 ((all-at-most arcs_of 1024 j.rules).1 l.arcs, e) in
        let c = (required _ 21 3 _).1 ((all-at-most positions_of 64 j.rules).1 l.positions, d) in
        let b = (required _ 21 2 _).1 (tests.le-leb _ _ l.rules, c) in
        (required _ 21 1 _).1 (tests.le-leb _ _ l.states, b)

-- pairs of two sets are a set of pairs
set_of_pairs : {a b : ℕ} {l m : List ℕ} → SetBelow a l → SetBelow b m → SetBelow (a * b) (grid (pair b) l m)
set_of_pairs {a} {b} {l} {m} h k = record {
  ascends = asc_grid b l m h.ascends k.ascends k.below;
  below = λ x i. let (q, r, j, g, e) = grid-∈ (pair b) l m i in subst (λ (y : ℕ). y < a * b) (sym e)
      (digits_lt (h.below q j) (k.below r g));
}

-- ---- count parts

-- the marks of a pair's coefficients: the pair, if its half is marked
only-marks : (b h : Bool) (x : ℕ) (z : ℤ) → (Yes b → h ≡ false) → marks (only b (record { state = x; times = z })) ++ only h x ≡ only
    (b || h) x
unfolding only
only-marks true true x z apart = never (sym (apart refl))
only-marks true false x z apart = refl
only-marks false h x z apart = refl

coefficient-marks : (cs : List Coefficient) (q x : ℕ) → Ascending (marks cs) → marks (coefficient_of cs q x) ≡ only (has (marks cs) q) x
unfolding coefficient_of flat_map has only
coefficient-marks [] q x a = refl
coefficient-marks (c ∷ cs) q x (a, al) =
    let first : List Coefficient = only (eqb c.state q) (record { state = x; times = c.times }) in
    map-append (λ (d : Coefficient). d.state) first (coefficient_of cs q x)
    ∙ ap (λ (l : List ℕ). marks first ++ l) (coefficient-marks cs q x al)
    ∙ only-marks (eqb c.state q) (has (marks cs) q) x c.times
    (λ e. has_no (λ m. let h = a q m in let i = same c.state q e in omega arith))
    ∙ ap (λ (b : Bool). only (b || has (marks cs) q) x) (eqb_like c.state q q c.state sym sym)

module _ (side : Side) (n : Sizes) where
  -- the marks of a lifted sum: the pairs whose half is marked
  pub lifted_marks : (cs : List Coefficient) → Ascending (marks cs)
      → marks (lift_sum side n cs) ≡ flat_map (λ x. only (has (marks cs) (half side n.of_T x)) x) (numbers (of_pairs n))
  unfolding lift_sum
  lifted_marks cs a =
      map_each (λ (c : Coefficient). c.state) (λ x. coefficient_of cs (half side n.of_T x) x) (numbers (of_pairs n))
      ∙ ap (λ (f : ℕ → List ℕ). flat_map f (numbers (of_pairs n))) (fun_ext (λ x. coefficient-marks cs (half side n.of_T x) x a))

  sum_in_range : (cs : List Coefficient) → SumInRange (of_side side n) cs → SumInRange (of_pairs n) (lift_sum side n cs)
  unfolding lift_sum coefficient_of
  sum_in_range cs ok = record {
    marked = subst (SetBelow (of_pairs n)) (sym (lifted_marks cs ok.marked.ascends))
        (asc_filter (λ x. has (marks cs) (half side n.of_T x)) (of_pairs n));
    coefficients = λ c m.
        let (x, _, k) = each-∈ (λ x. coefficient_of cs (half side n.of_T x) x) (numbers (of_pairs n)) m in
        let (d, l, h) = each-∈ (λ c. only (eqb c.state (half side n.of_T x)) (record { state = x; times = c.times })) cs k in
        subst (λ (c : Coefficient). Yes (small c.times)) (sym (only_eq (eqb d.state (half side n.of_T x)) _ h))
        (ok.coefficients d l);
  }

  -- lifted steps, after any number of other steps
  step_in_range : (shift i : ℕ) (s : Step) → StepInRange (of_side side n) i s → StepInRange (of_pairs n) (shift + i)
      (lift_step side n shift s)
  unfolding lift_step
  step_in_range shift i (at_most cs b) (h, k) = (sum_in_range cs h, k)
  step_in_range shift i (remainder cs m r) (h, k, l, j) = (sum_in_range cs h, k, l, j)
  step_in_range shift i (not_step j) h = omega arith
  step_in_range shift i (and_step j k) (h, g) = (omega arith, omega arith)
  step_in_range shift i (or_step j k) (h, g) = (omega arith, omega arith)

  steps_in_range : (shift i k : ℕ) (ss : List Step) → shift + i ≡ k → StepsInRange (of_side side n) i ss → StepsInRange (of_pairs n) k
      (map (lift_step side n shift) ss)
  steps_in_range shift i k [] e h = tt
  steps_in_range shift i k (s ∷ ss) e (h, hs) = (
    subst (λ (x : ℕ). StepInRange (of_pairs n) x (lift_step side n shift s)) e (step_in_range shift i s h),
    steps_in_range shift (suc i) (suc k) ss (omega arith) hs,
  )

  lifted_count_in_range : (ss : List Step) → CountInRange (of_side side n) ss → CountInRange (of_pairs n) (map (lift_step side n 0) ss)
  lifted_count_in_range ss ok = record {
    some_steps = omega (arith, length-map ss (lift_step side n 0), ok.some_steps);
    few_steps = omega (arith, length-map ss (lift_step side n 0), ok.few_steps);
    steps = steps_in_range 0 0 0 ss (omega arith) ok.steps;
  }

append_in_range : (p i k : ℕ) (ss ts : List Step) → i + length ss ≡ k → StepsInRange p i ss → StepsInRange p k ts → StepsInRange p i
    (ss ++ ts)
append_in_range p i k [] ts e h g = let d : k ≡ i = omega arith in subst (λ (x : ℕ). StepsInRange p x ts) d g
append_in_range p i k (s ∷ ss) ts e (h, hs) g = (h, append_in_range p (suc i) k ss ts (omega arith) hs g)

module _ (n : Sizes) where
  count_in_range : (φ ψ : Option (List Step)) → IfAny (CountInRange n.of_S) φ → IfAny (CountInRange n.of_T) ψ
      → (o : Option Order) (q : ℕ) → steps_of (three o (joint_count n φ ψ) q) ≤ 32 → IfAny (CountInRange (of_pairs n)) (joint_count n φ ψ)
  unfolding joint_count steps_of
  count_in_range none none h k o q few = tt
  count_in_range (some ss) none h k o q few = lifted_count_in_range S n ss h
  count_in_range none (some ts) h k o q few = lifted_count_in_range T n ts k
  count_in_range (some ss) (some ts) h k o q few =
      let front : List Step = map (lift_step S n 0) ss in
      let middle : List Step = map (lift_step T n (length ss)) ts in
      let last : Step = and_step (length ss - 1) (length ss + (length ts - 1)) in
      let e : length front ≡ length ss = length-map ss (lift_step S n 0) in
      let e' : length middle ≡ length ts = length-map ts (lift_step T n (length ss)) in
      let some_steps = h.some_steps in
      let some_more = k.some_steps in
      record {
        some_steps = omega (arith, length-append front (middle ++ (last ∷ [])));
        few_steps = few;
        steps =
            append_in_range (of_pairs n) 0 (length ss) front (middle ++ (last ∷ [])) (omega arith)
            (steps_in_range S n 0 0 0 ss (omega arith) h.steps)
            (append_in_range (of_pairs n) (length ss) (length ss + length ts) middle (last ∷ []) (omega arith)
            (steps_in_range T n (length ss) 0 (length ss) ts (omega arith) k.steps) ((omega arith, omega arith), tt));
      }

  -- ---- order parts

  lifted_order_in_range : (side : Side) (o : Order) → OrderInRange (of_side side n) o
      → length (lift_order side n o).arcs ≤ 1024 → OrderInRange (of_pairs n) (lift_order side n o)
  unfolding lift_order
  lifted_order_in_range side o ok few = record {
    some_positions = ok.some_positions;
    few_positions = ok.few_positions;
    accepting = ok.accepting;
    few_arcs = few;
    arcs = λ c m.
        let (a, other, k, l, e) = grid-∈ (lift_arc side n) o.arcs (numbers (of_other side n)) m in
        let h = ok.arcs a k in
        subst (ArcInRange (of_pairs n) o.positions) (sym e)
        (record { leaves = h.leaves; reads = beside-below side n h.reads (numbers-< _ l); enters = h.enters });
  }

  paired_order_in_range : (o u : Order) → OrderInRange n.of_S o → OrderInRange n.of_T u
      → (pair_order n o u).positions ≤ 64 → length (pair_order n o u).arcs ≤ 1024 → OrderInRange (of_pairs n) (pair_order n o u)
  unfolding pair_order
  paired_order_in_range o u ok ok' few few' = record {
    some_positions = mul-pos ok.some_positions ok'.some_positions;
    few_positions = few;
    accepting = set_of_pairs ok.accepting ok'.accepting;
    few_arcs = few';
    arcs = λ c m.
        let (a, b, k, l, e) = grid-∈ (pair_arc u.positions n.of_T) o.arcs u.arcs m in
        let h = ok.arcs a k in
        let g = ok'.arcs b l in
        subst (ArcInRange (of_pairs n) (o.positions * u.positions)) (sym e)
        (record {
          leaves = digits_lt h.leaves g.leaves;
          reads = digits_lt h.reads g.reads;
          enters = digits_lt h.enters
              g.enters;
        });
  }

  order_in_range : (o u : Option Order) → IfAny (OrderInRange n.of_S) o → IfAny (OrderInRange n.of_T) u → (φ : Option (List Step))
      (q : ℕ)
      → positions_of (three (joint_order n o u) φ q) ≤ 64 → arcs_of (three (joint_order n o u) φ q) ≤ 1024 → IfAny
      (OrderInRange (of_pairs n)) (joint_order n o u)
  unfolding joint_order positions_of arcs_of
  order_in_range none none h k φ q few few' = tt
  order_in_range (some o) none h k φ q few few' = lifted_order_in_range S o h few'
  order_in_range none (some u) h k φ q few few' = lifted_order_in_range T u k few'
  order_in_range (some o) (some u) h k φ q few few' = paired_order_in_range o u h k few few'

  -- ---- rules

  rule_in_range : {r : Side → Rule} {z : Rule} → Paired n r z → (g : Side → ℕ) →
      ((side : Side) → RuleInRange (of_side side n) (g side) (r side))
      → positions_of z ≤ 64 → arcs_of z ≤ 1024 → steps_of z ≤ 32 → RuleInRange (of_pairs n) (g S) z
  rule_in_range ones g h a b c = let (k, l, q) = h S in let (_, _, r) = h T in (k, l, digits_lt q r)
  rule_in_range twos g h a b c = let (k, l, i, q) = h S in let (_, _, j, r) = h T in (k, l, digits_lt i j, digits_lt q r)
  rule_in_range (threes {o = o} {φ = φ}) g h a b c =
      let (i, k, q) = h S in
      let (j, l, r) = h T in
      (order_in_range (o S) (o T) i j _ _ a b, count_in_range (φ S) (φ T) k l _ _ c, digits_lt q r)

-- ---- sheets

pub joint_in_range : (s t : Sheet) → InRange s → InRange t → within_limits (joint s t) ≡ passes tt → InRange (joint s t)
unfolding joint
joint_in_range s t s_ok t_ok within =
    let l = (limits_inv (joint s t)).0 within in
    record {
      some_states = mul-pos s_ok.some_states t_ok.some_states;
      few_states = l.states;
      final = set_of_pairs s_ok.final t_ok.final;
      some_tags = s_ok.some_tags;
      few_tags = s_ok.few_tags;
      few_rules = l.rules;
      rules = λ z m.
          let (r, k, x) = joint-∈ (sizes s t) (λ side. (either s t side).rules) m in
          let ranges = on_both (λ side. RuleInRange (of_side side (sizes s t)) (either s t side).tags (r side)) (s_ok.rules (r S) (k S))
          (t_ok.rules (r T) (k T)) in
          rule_in_range (sizes s t) x (λ side. (either s t side).tags) ranges (l.positions z m) (l.arcs z m) (l.steps z m);
      few_words = l.words;
    }

-- ---- the number of rules

pub pair-rule-count : (n : Sizes) (r u : Rule) → length (pair_rule n r u) ≤ 1
unfolding pair_rule
pair-rule-count n (one k s) (one j t) = length-only (eqb k j) _
pair-rule-count n (one k s) (two b d t) = omega arith
pair-rule-count n (one k s) (three u ψ t) = omega arith
pair-rule-count n (two a c s) (one j t) = omega arith
pair-rule-count n (two a c s) (two b d t) = length-only (eqb a b) _
pair-rule-count n (two a c s) (three u ψ t) = omega arith
pair-rule-count n (three o φ s) (one j t) = omega arith
pair-rule-count n (three o φ s) (two b d t) = omega arith
pair-rule-count n (three o φ s) (three u ψ t) = omega arith

pub joint-rule-count : (s t : Sheet) → length (joint s t).rules ≤ length s.rules * length t.rules
unfolding joint joint_rules
joint-rule-count s t =
    let pairs_with : Rule → List Rule = λ r. flat_map (pair_rule (sizes s t) r) t.rules in
    let few : (r : Rule) → length (pairs_with r) ≤ 1 * length t.rules = λ r. length-each (pair_rule (sizes s t) r) 1
    (pair-rule-count (sizes s t) r) t.rules in
    omega (arith, length-each pairs_with (1 * length t.rules) few s.rules)
