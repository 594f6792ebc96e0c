-- The words of an order part, and of lifted and paired ones.
use mathlib.Core.Path.{◌≡◌, refl, sym, ap, ap₂, ◌∙◌}
use mathlib.Core.List.Memᴰ
use mathlib.Core.List.{List, [], ◌∷◌, ◌++◌, map, flat_map, map-id}
use Prim.Native.Nat.{ℕ, ◌+◌, ◌-◌, ◌*◌, ◌/◌, ◌%◌, ◌≤◌}
use native.Mathlib.Omega.{arith}
use lib.ListN.{length, get_or, take, drop, length-map}
use Rattle.std.specs.Borrow.{Bor}
use Rattle.model.specs.Lists.{◌∈◌, has, numbers, row, grid}
use Rattle.model.specs.Sheet.{W, mask, set_words, Arc, arc_word, arc_of, Order, order_words, OrderInRange}
use Rattle.model.specs.Compose.{pair, Side, Sizes, of_side, of_other, lift_arc, lift_order, pair_arc, pair_order}
use Rattle.model.proofs.ListLaws.{length_from, map-append, length-grid}
use Rattle.model.proofs.PartLaws.{word-is, words_part}
use Rattle.model.proofs.RuleWords.{order-room}
use Rattle.model.proofs.Spans.{word-here, span_right}
use Rattle.sets.specs.Sets.{pair_set}
use Rattle.join_order.specs.Orders.{lifted_arc, lifted_grid, paired_arc, OrderOf}
use Rattle.join_order.specs.declared.OrderPart.{OrderPart}
use Rattle.model.specs.Spans.{OrderAt}
use Rattle.join_pairs.specs.Pairs.{FewPairs}
use Rattle.join_pairs.proofs.NumberLaws.{mul_le, few-S, few-T, few_side, few_other}
use Rattle.sets.proofs.SetLaws.{few_pairs, pairs_mask}

-- ---- grids

module _ {A B C : Type 0} (f : A → B → C) (g : C → ℕ) (k : A → ℕ) {D : Type 0} (j : B → D) (h : ℕ → D → ℕ) where
  map_row : (bs : List B) (a : A) → ((b : B) → b ∈ bs → g (f a b) ≡ h (k a) (j b)) → map g (row f bs a) ≡ row h (map j bs) (k a)
  unfolding row flat_map
  map_row [] a e = refl
  map_row (b ∷ bs) a e = ap₂ {C = List ℕ} ◌∷◌ (e b (Memᴰ.head refl)) (map_row bs a (λ c m. e c (Memᴰ.tail m)))

  map-grid : (as' : List A) (bs : List B) → ((a : A) (b : B) → a ∈ as' → b ∈ bs → g (f a b) ≡ h (k a) (j b))
      → map g (grid f as' bs) ≡ grid h (map k as') (map j bs)
  unfolding grid flat_map
  map-grid [] bs e = refl
  map-grid (a ∷ as') bs e =
      map-append g (row f bs a) (grid f as' bs)
      ∙ ap₂ (◌++◌) (map_row bs a (λ b m. e a b (Memᴰ.head refl) m)) (map-grid as' bs (λ x b m. e x b (Memᴰ.tail m)))

-- ---- an order part

-- an arc is read from its word
arc_back : {p : ℕ} {o : Order} → p ≤ 64 → OrderInRange p o → (a : Arc) → a ∈ o.arcs → arc_of (arc_word a) ≡ a
unfolding arc_word
arc_back few ranges a m =
    let h = ranges.arcs a m in
    let w : ℕ = arc_word a in
    let el : (arc_of w).leaves ≡ a.leaves = omega (arith, ranges.few_positions) in
    let er : (arc_of w).reads ≡ a.reads = omega (arith, ranges.few_positions) in
    let ee : (arc_of w).enters ≡ a.enters = omega (arith, ranges.few_positions) in
    λ i. record { leaves = el i; reads = er i; enters = ee i }

-- what an order part has, as the code reads it
module _ {p a : ℕ} {s : List ℕ} {o : Order} (h : OrderAt p s a o) where
  pub order_found : {positions set long : ℕ} {arcs : Bor (List ℕ)} → positions ≡ get_or s a 0
      → set ≡ get_or s (a + 1) 0 + get_or s (a + 1 + 1) 0 * W
      → long ≡ get_or s (a + 3) 0 → arcs.now ≡ take (a + 4 + long - (a + 4)) (drop (a + 4) s)
      → OrderOf o (record { positions = positions; accepting = set; arcs = arcs })
  unfolding order_words set_words
  order_found {set = set} {long} ep es el ea =
      let n = mask o.positions (has o.accepting) in
      let two : a + 1 + 1 ≡ a + 2 = omega arith in
      let low : get_or s (a + 1) 0 ≡ n % W = word-is h.there 1 (omega arith) in
      let high : get_or s (a + 1 + 1) 0 ≡ n / W = rw two (word-is h.there 2 (omega arith)) in
      let body = span_right (o.positions ∷ n % W ∷ n / W ∷ length o.arcs ∷ []) (map arc_word o.arcs) h.there in
      let last : a + 4 + long ≡ h.end = omega (arith, body.ends, length-map o.arcs arc_word, (order-room h).1, el) in
      record {
        positions = ep ∙ word-here h.there;
        accepting = omega arith;
        arcs = ea ∙ ap (λ (e : ℕ). take (e - (a + 4)) (drop (a + 4) s)) last ∙ words_part body;
      }

pub order_end : {s : List ℕ} {a : ℕ} → (p : ℕ) × ((o : Order) × OrderAt p s a o) → a + 4 + get_or s (a + 3) 0 ≤ length s
order_end (p, (o, h)) = omega (arith, order-room h)

-- ---- lifted and paired order parts

module _ {o : Order} {x : OrderPart} (h : OrderOf o x) where
  pub arcs-long : length x.arcs.now ≡ length o.arcs
  arcs-long = rw h.arcs (length-map o.arcs arc_word)

  pub few_arcs : {p : ℕ} → OrderInRange p o → length x.arcs.now ≤ 1024
  few_arcs ranges = rw arcs-long ranges.few_arcs

module _ (side : Side) {n : Sizes} (few : FewPairs n) {o : Order} {x : OrderPart} (h : OrderOf o x)
    (ranges : OrderInRange (of_side side n) o) {other : ℕ} (eo : other ≡ of_other side n) where
  -- the arcs are few, and so are the lifted ones
  pub lifted_few : length x.arcs.now * other ≤ 1024 * 64
  lifted_few = rw (arcs-long h, eo) (mul_le (length o.arcs) (of_other side n) ranges.few_arcs (few_other few side))

  pub lifted_order-words : (x.positions ∷ x.accepting % W ∷ x.accepting / W ∷ length x.arcs.now * other ∷ [])
      ++ lifted_grid side n x.arcs.now ≡ order_words (lift_order side n o)
  unfolding order_words lift_order set_words
  lifted_order-words =
      let others = numbers (of_other side n) in
      let same : map arc_word (grid (lift_arc side n) o.arcs others) ≡ lifted_grid side n x.arcs.now
      = map-grid (lift_arc side n) arc_word arc_word (λ (i : ℕ). i) (lifted_arc side n) o.arcs others
      (λ a i m _. ap (λ (b : Arc). arc_word (lift_arc side n b i)) (sym (arc_back (few_side few side) ranges a m)))
      ∙ ap₂ (grid (lifted_arc side n)) (sym h.arcs) (map-id others) in
      let count : length x.arcs.now * other ≡ length (grid (lift_arc side n) o.arcs others)
      = rw (arcs-long h, eo) (simp (length-grid, length_from)) in
      rw (h.positions, h.accepting, count, same)

module _ {o u : Order} {x y : OrderPart} (h : OrderOf o x) (k : OrderOf u y) where
  -- the pairs of arcs and of positions are few
  pub paired_few : {p q : ℕ} → OrderInRange p o → OrderInRange q u → length x.arcs.now * length y.arcs.now ≤ 1024 * 1024
  paired_few in_S in_T = rw (arcs-long h, arcs-long k) (mul_le (length o.arcs) (length u.arcs) in_S.few_arcs in_T.few_arcs)

  pub paired_positions : o.positions * u.positions ≤ 64 → x.positions * y.positions ≤ 64
  paired_positions fit = rw (h.positions, k.positions) fit

  pub paired_order-words : {n : Sizes} → FewPairs n → OrderInRange n.of_S o → OrderInRange n.of_T u
      → x.positions * y.positions ≤ 64 → {set : ℕ}
      → set ≡ pair_set x.positions y.positions x.accepting y.accepting
      → (x.positions * y.positions ∷ set % W ∷ set / W ∷ length x.arcs.now * length y.arcs.now ∷ [])
      ++ grid (paired_arc y.positions n.of_T) x.arcs.now y.arcs.now ≡ order_words (pair_order n o u)
  unfolding order_words pair_order set_words
  paired_order-words {n} few in_S in_T fit {set} es =
      let m = u.positions in
      let f = pair_arc m n.of_T in
      let same : map arc_word (grid f o.arcs u.arcs) ≡ grid (paired_arc y.positions n.of_T) x.arcs.now y.arcs.now
      = map-grid f arc_word arc_word arc_word (paired_arc m n.of_T) o.arcs u.arcs
      (λ a b i j. ap₂ (λ (c d : Arc). arc_word (f c d)) (sym (arc_back (few-S few) in_S a i)) (sym (arc_back (few-T few) in_T b j)))
      ∙ ap (λ (z : ℕ). grid (paired_arc z n.of_T) (map arc_word o.arcs) (map arc_word u.arcs)) (sym k.positions)
      ∙ ap₂ (grid (paired_arc y.positions n.of_T)) (sym h.arcs) (sym k.arcs) in
      let count : length x.arcs.now * length y.arcs.now ≡ length (grid f o.arcs u.arcs) = rw (arcs-long h, arcs-long k, length-grid) in
      let places : x.positions * y.positions ≡ o.positions * m = ap₂ ◌*◌ h.positions k.positions in
      let marks : set ≡ mask (o.positions * m) (has (grid (pair m) o.accepting u.accepting))
      = es ∙ few_pairs x.positions y.positions x.accepting y.accepting fit
      ∙ rw (h.positions, k.positions, h.accepting, k.accepting)
      (pairs_mask in_S.accepting in_T.accepting in_T.some_positions) in
      rw (places, marks, count, same)
