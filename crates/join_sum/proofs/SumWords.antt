-- The words of a sum, and of a lifted one.
use mathlib.Core.Path.{◌≡◌, refl, sym, ap, ap₂, ◌∙◌}
use mathlib.Core.Bool.{Bool, true, false, cond, and-true}
use mathlib.Core.List.Memᴰ
use mathlib.Core.List.{List, [], ◌∷◌, ◌++◌, map, flat_map}
use Prim.Native.Nat.{ℕ, zero, suc, ◌+◌, ◌-◌, ◌*◌, ◌/◌, ◌%◌, ◌^◌, ◌≤◌, ◌<◌}
use native.Mathlib.Omega.{arith}
use lib.Arith.{digits_lt}
use lib.Dec.{eqb}
use lib.ListN.{length, get_or, length-map}
use Rattle.model.specs.Lists.{◌∈◌, has, only, from, numbers, row, grid, Ascending, SetBelow}
use Rattle.model.specs.Sheet.{W, mask, set_words, bit, members, Coefficient, signed_word, marks, sum_words}
use Rattle.model.specs.Compose.{pair, Side, S, T, half, Sizes, coefficient_of, lift_sum, of_side, of_pairs}
use Rattle.model.proofs.Tests.{Told, yea, nay, told, yes_like, same, eqb_yes, eqb_no, eqb-false}
use Rattle.model.proofs.ListLaws.{∈-has, has-∈, has_no, map_each, each_append}
use Rattle.model.proofs.ListLaws.{∈-numbers, ∈_filter, numbers-<, grid-∈, asc_ext, asc_from, asc_filter, asc_grid}
use Rattle.model.proofs.Pairs.{either, half-pair, half-below, ∈_pairs}
use Rattle.model.proofs.JoinRange.{lifted_marks}
use Rattle.model.proofs.SetWords.{bit_mask}
use Rattle.model.proofs.Spans.{word-here, span_right}
use Rattle.bits.proofs.BitLaws.{mask_like}
use Rattle.bits.proofs.SetLaws.{words_stand, stands-members}
use Rattle.parts.specs.Lengths.{sum_length}
use Rattle.sets.specs.Sets.{pair_set}
use Rattle.sets.proofs.SetLaws.{few_pairs}
use Rattle.page.specs.Page.{repeated, repeated_each}
use Rattle.join_sum.specs.declared.Sum.{Sum}
use Rattle.model.specs.Spans.{SumAt}
use Rattle.join_sum.specs.Sums.{SumOf}
use Rattle.join_pairs.proofs.NumberLaws.{few-S, few-T}
use Rattle.join_pairs.specs.Pairs.{FewPairs}

-- ---- lists of what is made of each element

each_like : {A : Type 0} (f g : A → List ℕ) (l : List A) → ((x : A) → x ∈ l → f x ≡ g x) → flat_map f l ≡ flat_map g l
unfolding flat_map
each_like f g [] e = refl
each_like f g (x ∷ l) e = ap₂ (◌++◌) (e x (Memᴰ.head refl)) (each_like f g l (λ y m. e y (Memᴰ.tail m)))

-- each word alone, and the same words each time
each_self : (ws : List ℕ) → flat_map (λ w. w ∷ []) ws ≡ ws
unfolding flat_map
each_self [] = refl
each_self (w ∷ ws) = ap (λ (r : List ℕ). w ∷ r) (each_self ws)

each-repeated : (ws : List ℕ) (n q : ℕ) → flat_map (λ i. ws) (from n q) ≡ repeated n ws
unfolding flat_map from repeated
each-repeated ws zero q = refl
each-repeated ws (suc n) q = ap (λ (r : List ℕ). ws ++ r) (each-repeated ws n (suc q))

repeated_empty : (n : ℕ) → repeated n [] ≡ []
unfolding repeated
repeated_empty zero = refl
repeated_empty (suc n) = repeated_empty n

-- ---- the pairs of states, row by row

each_row : (f : ℕ → List ℕ) (p s : ℕ) (l : List ℕ) → flat_map f (row (pair p) l s) ≡ flat_map (λ t. f (pair p s t)) l
unfolding row flat_map
each_row f p s [] = refl
each_row f p s (t ∷ l) = ap (λ (r : List ℕ). f (pair p s t) ++ r) (each_row f p s l)

each-grid : (f : ℕ → List ℕ) (p : ℕ) (l m : List ℕ) → flat_map f (grid (pair p) l m) ≡ flat_map (λ s. flat_map (λ t. f (pair p s t)) m) l
unfolding grid flat_map
each-grid f p [] m = refl
each-grid f p (s ∷ l) m = each_append f (row (pair p) m s) (grid (pair p) l m) ∙ ap₂ (◌++◌) (each_row f p s m) (each-grid f p l m)

abbrev states : Sizes → Side → List ℕ
states n side = numbers (of_side side n)

-- one row for each state of S, in which T's state goes through all of them
module _ (n : Sizes) where
  row_by_row : numbers (of_pairs n) ≡ grid (pair n.of_T) (states n S) (states n T)
  row_by_row =
      asc_ext _ _ (asc_from (of_pairs n) 0)
      (asc_grid n.of_T (states n S) (states n T) (asc_from n.of_S 0) (asc_from n.of_T 0) (λ t m. numbers-< n.of_T m))
      (λ x m.
      (∈_pairs n.of_T (states n) (λ t k. numbers-< n.of_T k) x).1
      (λ side. ∈-numbers (of_side side n) (half-below side n (numbers-< (of_pairs n) m))))
      (λ x m.
      let (s, t, i, j, e) = grid-∈ (pair n.of_T) (states n S) (states n T) m in
      ∈-numbers (of_pairs n) (rw e (digits_lt (numbers-< n.of_S i) (numbers-< n.of_T j))))

  each-half : (f : ℕ → List ℕ) (side : Side)
      → flat_map (λ x. f (half side n.of_T x)) (numbers (of_pairs n))
      ≡ flat_map (λ s. flat_map (λ t. f (either s t side)) (states n T)) (states n S)
  each-half f side =
      ap (flat_map (λ x. f (half side n.of_T x))) row_by_row
      ∙ each-grid (λ x. f (half side n.of_T x)) n.of_T (states n S) (states n T)
      ∙ each_like _ _ (states n S) (λ s _. each_like _ _ (states n T) (λ t m. ap f (half-pair side (either s t) (numbers-< n.of_T m))))

-- ---- the coefficients of a sum, state by state

abbrev pub times_words : List Coefficient → List ℕ
times_words cs = map (λ c. signed_word c.times) cs

-- the word of the first coefficient of state q; alone, if q is marked
times-at : List Coefficient → ℕ → ℕ
times-at [] q = 0
times-at (c ∷ cs) q = cond (eqb c.state q) (signed_word c.times) (times-at cs q)

abbrev if_marked : List Coefficient → ℕ → List ℕ
if_marked cs q = only (has (marks cs) q) (times-at cs q)

times_of : (cs : List Coefficient) (q x : ℕ) → Ascending (marks cs) → times_words (coefficient_of cs q x) ≡ if_marked cs q
unfolding coefficient_of flat_map has only times-at
times_of [] q x asc = refl
times_of (c ∷ cs) q x (above, asc) = go (told (eqb c.state q)) (times_of cs q x asc)
  where
    go : Told (eqb c.state q) → times_words (coefficient_of cs q x) ≡ if_marked cs q
        → times_words (coefficient_of (c ∷ cs) q x) ≡ if_marked (c ∷ cs) q
    go (yea e) rest =
        let i : c.state ≡ q = same c.state q e in
        let none : has (marks cs) q ≡ false = has_no (λ m. let l = above q m in absurd (omega arith)) in
        rw (e, eqb_yes (sym i)) (ap (λ (ws : List ℕ). signed_word c.times ∷ ws) (rest ∙ rw none))
    go (nay e) rest = rw (e, eqb-false {m = q} {n = c.state} (λ i. eqb_no e (sym i))) rest

-- f of the word, if there is one, at each of k states is f of each word, where the coefficients are of those states and ascend
module _ (f : List ℕ → List ℕ) (empty : f [] ≡ []) where
  each-only : (b : ℕ → Bool) (v : ℕ → ℕ) (l : List ℕ)
      → flat_map (λ q. f (only (b q) (v q))) l ≡ flat_map (λ q. f (v q ∷ [])) (flat_map (λ q. only (b q) q) l)
  unfolding flat_map only
  each-only b v [] = refl
  each-only b v (q ∷ l) = go (b q) (each-only b v l)
    where
      go : (t : Bool) → flat_map (λ q. f (only (b q) (v q))) l ≡ flat_map (λ q. f (v q ∷ [])) (flat_map (λ q. only (b q) q) l)
          → f (only t (v q)) ++ flat_map (λ q. f (only (b q) (v q))) l
          ≡ flat_map (λ q. f (v q ∷ [])) (only t q ++ flat_map (λ q. only (b q) q) l)
      go true rest = ap (λ (ws : List ℕ). f (v q ∷ []) ++ ws) rest
      go false rest = ap₂ (◌++◌) empty rest

  each_mark : (cs : List Coefficient) → Ascending (marks cs)
      → flat_map (λ q. f (times-at cs q ∷ [])) (marks cs) ≡ flat_map (λ w. f (w ∷ [])) (times_words cs)
  unfolding flat_map times-at
  each_mark [] asc = refl
  each_mark (c ∷ cs) (above, asc) =
      rw (eqb_yes {m = c.state} {n = c.state} refl)
      (ap (λ (ws : List ℕ). f (signed_word c.times ∷ []) ++ ws)
      (each_like _ _ (marks cs) (λ q m. let l = above q m in rw (eqb-false {m = c.state} {n = q} (λ e. omega arith))) ∙ each_mark cs asc))

  each-state : {k : ℕ} (cs : List Coefficient) → SetBelow k (marks cs)
      → flat_map (λ q. f (if_marked cs q)) (numbers k) ≡ flat_map (λ w. f (w ∷ [])) (times_words cs)
  each-state {k} cs h =
      let l = marks cs in
      let marked : flat_map (λ q. only (has l q) q) (numbers k) ≡ l
      = asc_ext _ l (asc_filter (has l) k).ascends h.ascends (λ q m. has-∈ l ((∈_filter (has l) k q).0 m).1)
      (λ q m. (∈_filter (has l) k q).1 (h.below q m, ∈-has m)) in
      each-only (has l) (times-at cs) (numbers k) ∙ ap (flat_map (λ q. f (times-at cs q ∷ []))) marked ∙ each_mark cs h.ascends

-- ---- the words of a sum

-- over at most 64 states, as the code reads it
module _ {p a : ℕ} {s : List ℕ} {cs : List Coefficient} (few : p ≤ 64) (h : SumAt p s a cs) where
  abbrev sum_set : ℕ
  sum_set = mask p (has (marks cs))

  low_word : get_or s a 0 ≡ sum_set % W
  unfolding sum_words set_words
  low_word = word-here h.there

  high_word : get_or s (a + 1) 0 ≡ sum_set / W
  unfolding sum_words set_words
  high_word = word-here (span_right (sum_set % W ∷ []) (sum_set / W ∷ times_words cs) h.there)

  -- there are as many coefficients as marks
  pub sum-long : sum_length (get_or s a 0) (get_or s (a + 1) 0) ≡ length (sum_words p cs)
  unfolding sum_words set_words sum_length
  sum-long =
      let below : SetBelow 64 (marks cs)
      = record { ascends = h.ranges.marked.ascends; below = λ q i. let l = h.ranges.marked.below q i in omega arith } in
      let all : members 64 (sum_set % W + sum_set / W * W) ≡ marks cs
      = stands-members (words_stand p (marks cs) few h.ranges.marked refl) below in
      rw (low_word, high_word, all) (omega (arith, length-map cs (λ c. c.state), length-map cs (λ c. signed_word c.times)))

-- ---- the words of a lifted sum

-- a pair is marked in a lifted sum if its half is marked
has_lifted : (side : Side) (n : Sizes) (cs : List Coefficient) → Ascending (marks cs) → {x : ℕ} → x < of_pairs n
    → has (marks cs) (half side n.of_T x) ≡ has (marks (lift_sum side n cs)) x
has_lifted side n cs asc {x} l =
    let marked = ∈_filter (λ y. has (marks cs) (half side n.of_T y)) (of_pairs n) x in
    rw (lifted_marks side n cs asc) (yes_like _ _ (λ t. ∈-has (marked.1 (l, t))) (λ t. (marked.0 (has-∈ _ t)).1))

-- The words of the coefficients: each pair has that of its half. The pairs of a state of S are a row, one for each state of T: a word of S
-- is there that often in a row, and all words of T once in each row.
abbrev pub lifted_times : Side → Sizes → List ℕ → List ℕ
lifted_times S n ws = repeated_each n.of_T ws
lifted_times T n ws = repeated n.of_S ws

module _ (n : Sizes) (cs : List Coefficient) where
  by_state : (side : Side) → SetBelow (of_side side n) (marks cs)
      → flat_map (λ x. if_marked cs (half side n.of_T x)) (numbers (of_pairs n)) ≡ lifted_times side n (times_words cs)
  by_state S h =
      each-half n (if_marked cs) S ∙ each_like _ _ (states n S) (λ s _. each-repeated (if_marked cs s) n.of_T 0)
      ∙ each-state (repeated n.of_T) (repeated_empty n.of_T) cs h
  by_state T h =
      each-half n (if_marked cs) T ∙ each-repeated (flat_map (if_marked cs) (states n T)) n.of_S 0
      ∙ ap (repeated n.of_S) (each-state (λ ws. ws) refl cs h ∙ each_self (times_words cs))

  pub times_lifted : (side : Side) → SetBelow (of_side side n) (marks cs)
      → lifted_times side n (times_words cs) ≡ times_words (lift_sum side n cs)
  unfolding lift_sum
  times_lifted side h =
      sym (map_each (λ (c : Coefficient). signed_word c.times) (λ x. coefficient_of cs (half side n.of_T x) x) (numbers (of_pairs n))
      ∙ each_like _ _ (numbers (of_pairs n)) (λ x _. times_of cs (half side n.of_T x) x h.ascends) ∙ by_state side h)

-- the marks: the pairs of which one half is in a set and the other any number below 64
abbrev lifted_set : Side → Sizes → ℕ → ℕ
lifted_set S n m = pair_set n.of_S n.of_T m (2 ^ 64 - 1)
lifted_set T n m = pair_set n.of_S n.of_T (2 ^ 64 - 1) m

bit-all : (i : ℕ) → i < 64 → bit (2 ^ 64 - 1) i ≡ true
unfolding mask
bit-all i h = bit_mask 64 (λ _. true) i h

set_lifted : {n : Sizes} → FewPairs n → (m : ℕ) (side : Side) → lifted_set side n m ≡ mask (of_pairs n) (λ x. bit m (half side n.of_T x))
set_lifted {n} few m S =
    few_pairs n.of_S n.of_T m (2 ^ 64 - 1) few.few ∙ mask_like (of_pairs n) _ _ (λ x l.
    rw (bit-all (x % n.of_T) (omega (arith, half-below T n l, few-T few))) (and-true (bit m (x / n.of_T))))
set_lifted {n} few m T =
    few_pairs n.of_S n.of_T (2 ^ 64 - 1) m few.few ∙ mask_like (of_pairs n) _ _ (λ x l.
    rw (bit-all (x / n.of_T) (omega (arith, half-below S n l, few-S few))))

pub lifted_sum-words : (side : Side) {n : Sizes} → FewPairs n → {x : Sum} {cs : List Coefficient}
    → SumOf (of_side side n) x cs → {set : ℕ} → set ≡ lifted_set side n x.marks
    → (set % W ∷ set / W ∷ []) ++ lifted_times side n x.times.now ≡ sum_words (of_pairs n) (lift_sum side n cs)
unfolding sum_words set_words
lifted_sum-words side {n} few {x = x} {cs} h {set} e =
    let marked : (y : ℕ) → y < of_pairs n → bit x.marks (half side n.of_T y) ≡ has (marks (lift_sum side n cs)) y
    = λ y l. rw h.marks (bit_mask (of_side side n) (has (marks cs)) (half side n.of_T y) (half-below side n l)
    ∙ has_lifted side n cs h.ranges.marked.ascends l) in
    let all : set ≡ mask (of_pairs n) (has (marks (lift_sum side n cs)))
    = e ∙ set_lifted few x.marks side ∙ mask_like (of_pairs n) _ _ marked in
    rw (all, h.words, times_lifted n cs side h.ranges.marked)
