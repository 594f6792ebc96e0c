-- How large the parts of a rule and of the joint rule of two are.
use mathlib.Core.Path.{◌≡◌, refl, sym, ap, subst, ◌∙◌}
use mathlib.Core.Logic.{◌≢◌}
use mathlib.Core.List.{List, [], ◌∷◌, ◌++◌, map, flat_map}
use mathlib.Core.Option as math
use Prim.Native.Nat.{ℕ, ◌+◌, ◌-◌, ◌*◌, ◌^◌, ◌≤◌}
use native.Mathlib.Omega.{arith}
use lib.ListN.{length, get_or, length-append, length-map}
use Rattle.std.specs.Prelude.{Option, Some, None}
use Rattle.model.specs.Lists as lists
use Rattle.model.specs.Sheet.{Order, Step, Rule, one, two, three, arc_word, order_words, set_words, step_words, count_words, rule_words}
use Rattle.model.specs.Sheet.{at_most, remainder, not_step, and_step, or_step}
use Rattle.model.specs.Sheet.{RuleInRange}
use Rattle.model.specs.Spans.{Content, OrderAt, CountAt, order_part, count_part}
use Rattle.model.specs.Index.{sheet_in}
use Rattle.model.specs.Compose.{Side, S, T, Sizes, of_other, of_pairs, lift_arc, pair_arc, lift_order, pair_order, joint_order}
use Rattle.model.specs.Compose.{lift_step, joint_count}
use Rattle.model.proofs.ListLaws.{length_from, length-grid, each_append}
use Rattle.model.proofs.Spans.{word-here}
use Rattle.model.proofs.RuleWords.{order-room, content-words, as_text, as_tag, as_content}
use Rattle.indexed.specs.declared.Part.{Part}
use Rattle.indexed.specs.declared.Spot.{Spot}
use Rattle.indexed.specs.Spots.{parts_of}
use Rattle.indexed.specs.Rules.{rule_of, OrderIn, CountIn}
use Rattle.indexed.proofs.SpotLaws.{stands}
use Rattle.join_pairs.specs.declared.Half.{Half}
use Rattle.join_pairs.specs.declared.Sizes as numbers
use Rattle.join_pairs.specs.Pairs.{FewPairs}
use Rattle.join_pairs.specs.Sides.{side_of, sizes_of, own_states}
use Rattle.join_pairs.proofs.NumberLaws.{mul_le, few-S, few-T}
use Rattle.join_count.specs.Counts.{SomeCount, LiftsCount}
use Rattle.join_count.proofs.CountWords.{count-number}
use Rattle.join_alike.proofs.AlikeLaws.{JointOf, texts, tags, contents}
use Rattle.join_extents.specs.declared.OrderSize.{OrderSize}
use Rattle.join_extents.specs.declared.CountSize.{CountSize}
use Rattle.join_extents.specs.declared.Extent.{Extent}
use Rattle.join_extents.specs.Extents.{OfSide, order_size, count_size, lifted_size, SmallOrder, SmallCount, joint_order_size}
use Rattle.join_extents.specs.Extents.{joint_count_size, extent_of, extent_in, joint_extent, positions_in, arcs_in, order_words_in, words_in}
use Rattle.join_extents.specs.Extents.{fixed_words, words_of}

-- ---- the joint parts

abbrev order : (positions arcs : ℕ) → Option OrderSize
order m n = Some (record { positions = m; arcs = n })

abbrev count : (steps words : ℕ) → Option CountSize
count k l = Some (record { steps = k; words = l })

order_like : {p q a b : ℕ} → p ≡ q → a ≡ b → order p a ≡ order q b
order_like e f = λ i. order (e i) (f i)

count_like : {k l v w : ℕ} → k ≡ l → v ≡ w → count k v ≡ count l w
count_like e f = λ i. count (e i) (f i)

extent_like : {o u : Option OrderSize} {c d : Option CountSize} → o ≡ u → c ≡ d
    → ◌≡◌ {A = Extent} (record { order = o; count = c }) (record { order = u; count = d })
extent_like e f = λ i. record { order = e i; count = f i }

-- a lifted order part has each arc for every state of the other sheet
lifted_arcs : (side : Side) (n : Sizes) (o : Order) → length (lift_order side n o).arcs ≡ length o.arcs * of_other side n
unfolding lift_order
lifted_arcs side n o =
    length-grid (lift_arc side n) o.arcs (lists.numbers (of_other side n)) ∙ ap (λ (k : ℕ). length o.arcs * k)
    (length_from (of_other side n) 0)

-- steps that are shifted are as long
shifted_step : (side : Side) (n : Sizes) (k p : ℕ) (x : Step)
    → length (step_words p (lift_step side n k x)) ≡ length (step_words p (lift_step side n 0 x))
unfolding step_words lift_step
shifted_step side n k p (at_most cs b) = refl
shifted_step side n k p (remainder cs m r) = refl
shifted_step side n k p (not_step i) = refl
shifted_step side n k p (and_step i j) = refl
shifted_step side n k p (or_step i j) = refl

abbrev steps-words : Side → Sizes → (shift : ℕ) → List Step → List ℕ
steps-words side n k ss = flat_map (step_words (of_pairs n)) (map (lift_step side n k) ss)

shifted_long : (side : Side) (n : Sizes) (k : ℕ) (ss : List Step) → length (steps-words side n k ss) ≡ length (steps-words side n 0 ss)
unfolding flat_map
shifted_long side n k [] = refl
shifted_long side n k (x ∷ ss) =
    let p = of_pairs n in
    omega (
      arith,
      length-append (step_words p (lift_step side n k x)) (steps-words side n k ss),
      length-append (step_words p (lift_step side n 0 x)) (steps-words side n 0 ss),
      shifted_step side n k p x,
      shifted_long side n k ss,
    )

-- ---- the words of a rule

order-long : (o : math.Option Order) → length (order_part o) ≡ order_words_in (order_size o)
unfolding order_words set_words
order-long math.none = refl
order-long (math.some o) = omega (arith, length-map o.arcs arc_word)

count_long : (p : ℕ) (φ : math.Option (List Step)) → length (count_part p φ) ≡ words_in (count_size p φ)
count_long p math.none = refl
count_long p (math.some ss) = refl

pub fixed_few : (x : Rule) → fixed_words x ≤ 4
fixed_few (one k q) = omega arith
fixed_few (two g c q) = omega arith
fixed_few (three o φ q) = omega arith

content-long : (p : ℕ) (o : math.Option Order) (φ : math.Option (List Step)) (q : ℕ)
    → length (rule_words p (three o φ q)) ≡ words_of 2 (extent_in p (three o φ q))
content-long p o φ q =
    omega (
      arith,
      ap length (content-words p o φ q),
      length-append (order_part o) (count_part p φ ++ (q ∷ [])),
      length-append (count_part p φ) (q ∷ []),
      order-long o,
      count_long p φ,
    )

-- ---- joint parts

module _ (n : Sizes) where
  joint_orders : (o u : math.Option Order) → order_size (joint_order n o u) ≡ joint_order_size n (order_size o) (order_size u)
  unfolding joint_order lift_order pair_order
  joint_orders math.none math.none = refl
  joint_orders math.none (math.some u) = order_like refl (lifted_arcs T n u)
  joint_orders (math.some o) math.none = order_like refl (lifted_arcs S n o)
  joint_orders (math.some o) (math.some u) = order_like refl (length-grid (pair_arc u.positions n.of_T) o.arcs u.arcs)

  joint-counts : (φ ψ : math.Option (List Step))
      → count_size (of_pairs n) (joint_count n φ ψ) ≡ joint_count_size (lifted_size S n φ) (lifted_size T n ψ)
  unfolding joint_count count_words flat_map step_words
  joint-counts math.none math.none = refl
  joint-counts math.none (math.some ts) = refl
  joint-counts (math.some ss) math.none = refl
  joint-counts (math.some ss) (math.some ts) =
      let words = step_words (of_pairs n) in
      let lower = map (lift_step S n 0) ss in
      let upper = map (lift_step T n (length ss)) ts in
      let last = and_step (length ss - 1) (length ss + (length ts - 1)) ∷ [] in
      let number = length-append lower (upper ++ last) in
      let long = ap length (each_append words lower (upper ++ last)) in
      let later = ap length (each_append words upper last) in
      count_like
      (omega (arith, number, length-append upper last, length-map ts (lift_step T n 0), length-map ts (lift_step T n (length ss))))
      (omega (
        arith,
        long,
        length-append (flat_map words lower) (flat_map words (upper ++ last)),
        later,
        length-append (flat_map words upper) (flat_map words last),
        shifted_long T n (length ss) ts,
      ))

  -- ---- the joint rule

  -- its extent and its words
  pub joint_sized : {x y z : Rule} → JointOf n x y z
      → (extent_in (of_pairs n) z ≡ joint_extent n (extent_of S n x) (extent_of T n y))
      × (length (rule_words (of_pairs n) z) ≡ words_of (fixed_words x) (extent_in (of_pairs n) z))
  unfolding joint_order joint_count rule_words
  joint_sized (texts k s t) = (refl, refl)
  joint_sized (tags g c d s t) = (refl, refl)
  joint_sized (contents o u φ ψ s t) = (
    extent_like (joint_orders o u) (joint-counts φ ψ),
    content-long (of_pairs n) (joint_order n o u) (joint_count n φ ψ) _,
  )

-- ---- by the code's tests

positions-word : {p a : ℕ} {s : List ℕ} {o : Order} → OrderAt p s a o → get_or s a 0 ≡ o.positions
unfolding order_words set_words
positions-word h = word-here h.there

small-order : (p : ℕ) (x : Rule) → RuleInRange p 64 x → SmallOrder (order_size (parts_of x).order)
small-order p (one k q) h = record { positions = omega arith; arcs = omega arith }
small-order p (two g c q) h = record { positions = omega arith; arcs = omega arith }
small-order p (three math.none φ q) h = record { positions = omega arith; arcs = omega arith }
small-order p (three (math.some o) φ q) h = record { positions = h.0.few_positions; arcs = h.0.few_arcs }

module _ (x : Spot) where
  abbrev s : List ℕ
  s = x.sheet.words.now

  abbrev parts : Content
  parts = parts_of (rule_of x)

  -- what the code finds is the size of the order part, and small
  is-order : {o : Option OrderSize} → o ≡ order_size parts.order → (o ≡ order_size parts.order) × SmallOrder o
  is-order e = (e, subst SmallOrder (sym e) (small-order (sheet_in s).states (rule_of x) (stands x).begins.ranges))

  pub order-there : {c : Part} → OrderIn x c → {m n : ℕ} → m ≡ get_or c.words.now c.at 0 → n ≡ get_or c.words.now (c.at + 3) 0
      → (order m n ≡ order_size parts.order) × SmallOrder (order m n)
  order-there h em en =
      is-order (order_like (em ∙ positions-word h.there) (en ∙ (order-room h.there).1) ∙ ap order_size (sym h.has))

  pub order_none : parts.order ≡ math.none → (None ≡ order_size parts.order) × SmallOrder None
  order_none e = is-order (ap order_size (sym e))

  pub fixed_text : {m : ℕ} → m ≡ get_or s x.at 0 → m ≡ 33 → 3 ≡ fixed_words (rule_of x)
  fixed_text e f = let (k, q, i) = as_text (rule_of x) (stands x).begins (sym e ∙ f) in ap fixed_words (sym i)

  pub fixed_tag : {m : ℕ} → m ≡ get_or s x.at 0 → m ≡ 38 → 4 ≡ fixed_words (rule_of x)
  fixed_tag e f = let (g, c, q, i) = as_tag (rule_of x) (stands x).begins (sym e ∙ f) in ap fixed_words (sym i)

  pub fixed_content : {m : ℕ} → m ≡ get_or s x.at 0 → m ≢ 33 → m ≢ 38 → 2 ≡ fixed_words (rule_of x)
  fixed_content e f g =
      let v = as_content (rule_of x) (stands x).begins (λ i. f (e ∙ i)) (λ i. g (e ∙ i)) in ap fixed_words (sym v.is)

  -- the count part of a rule of a sheet
  module _ (h : Half) (of : OfSide h x) where
    module _ {c : Part} (here : CountIn x c) where
      stands-at : CountAt (own_states h) c.words.now c.at here.steps
      stands-at = rw (← of, ← here.words) here.there

      pub count_given : SomeCount (own_states h) c
      count_given = (here.steps, stands-at)

      pub count-there : {k l : ℕ} → k ≡ get_or c.words.now c.at 0 → LiftsCount h c (λ ws. l ≡ length ws) → l ≤ 2 ^ 18
          → (count k l ≡ lifted_size (side_of h.side) (sizes_of h.sizes) parts.count) × SmallCount (count k l)
      count-there {k} {l} ek long few =
          let ss = here.steps in
          let steps = ek ∙ sym (count-number stands-at) in
          let size = count_like (steps ∙ sym (length-map ss (lift_step (side_of h.side) (sizes_of h.sizes) 0))) (long ss stands-at) in (
            size ∙ ap (lifted_size (side_of h.side) (sizes_of h.sizes)) (sym here.has),
            record { steps = omega (arith, steps, stands-at.ranges.few_steps); words = omega arith },
          )

    pub count_none : parts.count ≡ math.none → (None ≡ lifted_size (side_of h.side) (sizes_of h.sizes) parts.count) × SmallCount None
    count_none e = (ap (lifted_size (side_of h.side) (sizes_of h.sizes)) (sym e), record { steps = omega arith; words = omega arith })

-- ---- what the code makes of two order parts

pub products_small : {x y : Option OrderSize} (n : numbers.Sizes) → SmallOrder x × SmallOrder y × FewPairs (sizes_of n)
    → (positions_in x * positions_in y ≤ 64 * 64) × (arcs_in x * n.t ≤ 1024 * 64) × (arcs_in y * n.s ≤ 1024 * 64)
    × (arcs_in x * arcs_in y ≤ 1024 * 1024)
products_small n (x, y, few) = (
  mul_le _ _ x.positions y.positions,
  mul_le _ _ x.arcs (few-T few),
  mul_le _ _ y.arcs (few-S few),
  mul_le _ _ x.arcs y.arcs,
)
