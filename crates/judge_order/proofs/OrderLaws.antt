-- Sets of positions as bits: what one arc adds, what one child makes of a set, and what is left to read.
use mathlib.Core.Path.{◌≡◌, refl, sym, ap, ◌∙◌}
use mathlib.Core.Logic.{◌≢◌}
use mathlib.Core.Bool.{Bool, ◌&&◌, ◌||◌, and-false}
use mathlib.Core.List.Memᴰ
use mathlib.Core.List.{List, [], ◌∷◌, ◌++◌, map, flat_map}
use Prim.Native.Nat.{ℕ, zero, suc, ◌+◌, ◌-◌, ◌*◌, ◌≤◌, ◌<◌}
use native.Mathlib.Numerals.{add-one}
use native.Mathlib.Omega.{arith}
use lib.Dec.{eqb}
use lib.ListN.{length, get_or, take, drop, drop_of_length-le}
use lib.Seq.{drop-cons, take_all}
use Rattle.model.specs.Lists.{◌∈◌, has, only}
use Rattle.model.specs.Sheet.{Arc, W, mask, set_words, arc_word, order_words, ArcInRange, bit, members, arc_of}
use Rattle.model.specs.Words.{entered, next_set, last_set, meets, fits_order, unless_empty, reads_from, reads}
use Rattle.model.proofs.Tests.{eqb_yes, eqb-false}
use Rattle.bits.specs.Stands.{Stands}
use Rattle.bits.proofs.SetLaws.{zero_stands, stands_none, stands-some, words_stand, Gathers, gathers_none, gathers_more, gathers_all}
use Rattle.bits.proofs.SetLaws.{stands_meet}
use Rattle.judge_order.specs.Order.{states_of, OrderPart, ArcWords, Read, OrderSays}

-- ---- one child

-- what the arcs from word i on add to `next` makes the next set
pub record ArcsLeft (arcs : List ℕ) (set state next i : ℕ) : Type 0 where
  pub within : i ≤ length arcs
  pub makes : (l : List ℕ) → Stands set l → Gathers next (next_set (map arc_of (drop i arcs)) l state) (next_set (map arc_of arcs) l state)

pub no_arc : {arcs : List ℕ} {set state : ℕ} → ArcsLeft arcs set state 0 0
no_arc = record { within = omega arith; makes = λ l s. gathers_none _ }

module _ {arcs : List ℕ} {set state next i : ℕ} (left : ArcsLeft arcs set state next i) where
  -- one arc more, taken apart
  module _ {leaves reads enters : ℕ} (h : i < length arcs)
      (parts : (leaves ≡ (arc_of (get_or arcs i 0)).leaves) × (reads ≡ (arc_of (get_or arcs i 0)).reads) ×
      (enters ≡ (arc_of (get_or arcs i 0)).enters)) where
    ahead : (l : List ℕ) → Stands set l
        → Gathers next (only (eqb reads state && bit set leaves) enters ++ next_set (map arc_of (drop (i + 1) arcs)) l state)
        (next_set (map arc_of arcs) l state)
    unfolding next_set flat_map entered
    ahead l s =
        let (el, er, ee) = parts in
        rw (el, er, ee, s.same _, add-one) (rw (drop-cons arcs i 0 h) at (left.makes l s))

    pub other_arc : reads ≢ state → {r : ℕ} → r ≡ next → ArcsLeft arcs set state r (i + 1)
    unfolding only
    other_arc n er = rw er (record { within = omega arith; makes = λ l s. rw (eqb-false n) at (ahead l s) })

    pub one_arc : reads ≡ state → (arc_of (get_or arcs i 0)).enters < 64 → {b : Bool} → b ≡ bit set leaves → {r : ℕ} → r ≡ mask 64
        (λ j. bit next j || (b && eqb j enters))
        → ArcsLeft arcs set state r (i + 1)
    one_arc e below {b} eb er = record {
      within = omega arith;
      makes = λ l s. gathers_more b enters (omega (arith, parts.2)) er (rw (eqb_yes e, sym eb) at (ahead l s));
    }

  pub all-arcs : length arcs ≤ i → (l : List ℕ) → Stands set l → Stands next (next_set (map arc_of arcs) l state)
  unfolding next_set flat_map
  all-arcs h l s = gathers_all (rw (drop_of_length-le arcs h) at (left.makes l s))

-- ---- all children

-- no position is entered from none
no_next : (arcs : List Arc) (q : ℕ) → next_set arcs [] q ≡ []
unfolding next_set flat_map entered has only
no_next [] q = refl
no_next (a ∷ arcs) q = rw (and-false (eqb a.reads q)) (no_next arcs q)

no_last : (arcs : List Arc) (w : List ℕ) → last_set arcs [] w ≡ []
unfolding last_set
no_last arcs [] = refl
no_last arcs (q ∷ w) = ap (λ l. last_set arcs l w) (no_next arcs q) ∙ no_last arcs w

-- the children from word i on, read from `set`, come to what they all come to
pub record ChildrenLeft (arcs words : List ℕ) (set i : ℕ) : Type 0 where
  pub within : i ≤ length words
  pub positions : List ℕ
  pub stands : Stands set positions
  pub last : last_set (map arc_of arcs) positions (states_of (drop i words)) ≡ last_set (map arc_of arcs) (0 ∷ []) (states_of words)
  pub read : i + reads_from (map arc_of arcs) positions (states_of (drop i words)) ≡ reads_from (map arc_of arcs) (0 ∷ []) (states_of words)

pub no_child : {arcs words : List ℕ} → ChildrenLeft arcs words 1 0
no_child = record { within = omega arith; positions = 0 ∷ []; stands = zero_stands; last = refl; read = omega arith }

module _ {arcs words : List ℕ} {set i : ℕ} (left : ChildrenLeft arcs words set i) where
  pub all-children : length words ≤ i → Read arcs words set i
  unfolding states_of last_set reads_from
  all-children h =
      let none : drop i words ≡ [] = drop_of_length-le words h in
      record { last = rw (rw none at left.last) at left.stands; count = omega (arith, rw none at left.read); within = left.within }

  module _ {r : ℕ} (h : i < length words)
      (step : (l : List ℕ) → Stands set l → Stands r (next_set (map arc_of arcs) l (get_or words i 0 - 1))) where
    -- the child's state in front
    split : states_of (drop i words) ≡ (get_or words i 0 - 1) ∷ states_of (drop (i + 1) words)
    unfolding states_of
    split = rw (drop-cons words i 0 h, add-one)

    abbrev next : List ℕ
    next = next_set (map arc_of arcs) left.positions (get_or words i 0 - 1)

    left_next : (last_set (map arc_of arcs) next (states_of (drop (i + 1) words)) ≡ last_set (map arc_of arcs) (0 ∷ []) (states_of words)) ×
        (i + suc (unless_empty next (reads_from (map arc_of arcs) next (states_of (drop (i + 1) words)))) ≡ reads_from (map arc_of arcs)
        (0 ∷ []) (states_of words))
    unfolding last_set reads_from
    left_next = (rw split at left.last, rw split at left.read)

    -- a child that leaves positions
    pub one_child : r ≢ 0 → ChildrenLeft arcs words r (i + 1)
    one_child n =
        let (x, xs, e) = stands-some (step _ left.stands) n in
        let (last, read) = rw e at left_next in
        record { within = omega arith; positions = x ∷ xs; stands = rw e at (step _ left.stands); last = last; read = omega arith }

    -- a child that leaves none
    pub last_child : r ≡ 0 → Read arcs words r (i + 1)
    last_child z =
        let e : next ≡ [] = stands_none (step _ left.stands) z in
        let (last, read) = rw (e, no_last) at left_next in
        record { last = rw (sym last) (rw e at (step _ left.stands)); count = omega arith; within = omega arith }

-- ---- the whole part

-- an arc's word taken apart
arc_back : {p m : ℕ} {a : Arc} → p ≤ 64 → m ≤ 64 → ArcInRange p m a → arc_of (arc_word a) ≡ a
unfolding arc_word
arc_back {a = a} hp hm h =
    let w : ℕ = arc_word a in
    let el : (arc_of w).leaves ≡ a.leaves = omega arith in
    let er : (arc_of w).reads ≡ a.reads = omega arith in
    let ee : (arc_of w).enters ≡ a.enters = omega arith in
    λ i. record { leaves = el i; reads = er i; enters = ee i }

module _ {p m : ℕ} (hp : p ≤ 64) (hm : m ≤ 64) where
  arcs_back : (arcs : List Arc) → ((a : Arc) → a ∈ arcs → ArcInRange p m a) → map arc_of (map arc_word arcs) ≡ arcs
  arcs_back [] h = refl
  arcs_back (a ∷ arcs) h = rw (arc_back hp hm (h a (Memᴰ.head refl)), arcs_back arcs (λ b m. h b (Memᴰ.tail m)))

  arcs_enter : (arcs : List Arc) → ((a : Arc) → a ∈ arcs → ArcInRange p m a) → ArcWords (map arc_word arcs)
  arcs_enter [] h k l = absurd (omega arith)
  arcs_enter (a ∷ arcs) h zero l = let r = h a (Memᴰ.head refl) in omega (arith, ap (λ (x : Arc). x.enters) (arc_back hp hm r))
  arcs_enter (a ∷ arcs) h (suc k) l = arcs_enter arcs (λ b m. h b (Memᴰ.tail m)) k (omega arith)

module _ {part : List ℕ} (h : OrderPart part) where
  pub part_long : 4 ≤ length part
  unfolding order_words set_words
  part_long = omega (arith, ap length h.coded)

  part_arcs : take (length part - 4) (drop 4 part) ≡ map arc_word h.order.arcs
  unfolding order_words set_words
  part_arcs = rw h.coded (take_all (length (order_words h.order) - 4) (map arc_word h.order.arcs) (omega arith))

  pub arcs-within : ArcWords (take (length part - 4) (drop 4 part))
  arcs-within = rw part_arcs (arcs_enter h.few_states h.in_range.few_positions h.order.arcs h.in_range.arcs)

  arcs_are : map arc_of (take (length part - 4) (drop 4 part)) ≡ h.order.arcs
  arcs_are = rw part_arcs (arcs_back h.few_states h.in_range.few_positions h.order.arcs h.in_range.arcs)

  accepting-stands : {r : ℕ} → r ≡ get_or part 1 0 + get_or part 2 0 * W → Stands r h.order.accepting
  unfolding order_words set_words
  accepting-stands e = words_stand h.order.positions h.order.accepting h.in_range.few_positions h.in_range.accepting
      (rw h.coded at e)

-- as many states as state words
pub length-states : (words : List ℕ) → length (states_of words) ≡ length words
unfolding states_of
length-states [] = refl
length-states (x ∷ words) = ap suc (length-states words)

pub order-says : {part words : List ℕ} {set n accepting : ℕ} {b : Bool} → Read (take (length part - 4) (drop 4 part)) words set n
    → accepting ≡ get_or part 1 0 + get_or part 2 0 * W → b ≡ meets (members 64 set) (members 64 accepting)
    → OrderSays part (states_of words) b n
unfolding fits_order reads
order-says {words = words} r ea eb = record {
  fitting = λ h. eb ∙ stands_meet (rw (arcs_are h) at r.last) (accepting-stands h ea);
  reading = λ h. rw (arcs_are h) at r.count;
  within = rw (length-states words) r.within;
}
