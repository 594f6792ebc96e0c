-- The words of the joint rule of two content rules with one key, and the pair of the targets of two rules.
use mathlib.Core.Path.{◌≡◌, refl, sym, ap, ◌∙◌}
use mathlib.Core.Logic.{◌≢◌}
use mathlib.Core.Bool.{◌||◌}
use mathlib.Core.List.Memᴰ
use mathlib.Core.List.{List, [], ◌∷◌, ◌++◌, flat_map, append-nil}
use mathlib.Core.Option.{Option, none, some}
use Prim.Native.Nat.{ℕ, ◌*◌, ◌≤◌, ◌<◌}
use native.Mathlib.Omega.{arith}
use lib.ListN.{get_or}
use Rattle.model.specs.Sheet.{Order, Step, Rule, rule_words}
use Rattle.model.specs.Spans.{OrderAt, CountAt, RuleAt, there_is, map_of, order_part, count_part}
use Rattle.model.specs.Compose as model
use Rattle.model.specs.Compose.{pair, of_pairs, pair_order, joint_order, joint_count, pair_rule, positions_of}
use Rattle.model.specs.Index.{sheet_in}
use Rattle.model.proofs.RuleWords.{content-words, text_key, tag_key}
use Rattle.indexed.specs.declared.Part.{Part}
use Rattle.indexed.specs.Spots.{parts_of}
use Rattle.indexed.specs.Rules.{OrderIn, CountIn}
use Rattle.indexed.proofs.SpotLaws.{stands}
use Rattle.join_pairs.specs.declared.Side.TheVariants as sides
use Rattle.join_pairs.proofs.NumberLaws.{few-S, few-T}
use Rattle.join_order.specs.Orders.{PairableOrders, LiftsOrder, PairsOrders}
use Rattle.join_count.specs.Counts.{LiftsCount, JoinsCounts}
use Rattle.join_alike.specs.declared.RulePair.{RulePair}
use Rattle.join_alike.specs.Alike.{pair_joint, FewPositions}
use Rattle.join_alike.proofs.AlikeLaws.{JointOf, texts, tags, contents, alike_paired, paired_rule}
use Rattle.join_contents.specs.Parts.{parts_in, target_in, map_in, order_in, count_in, pair_words}

-- ---- by the kind

pub one_rule : {n : model.Sizes} {x y z : Rule} → JointOf n x y z → rule_words (of_pairs n) z
    ≡ flat_map (rule_words (of_pairs n)) (pair_rule n x y)
unfolding flat_map
one_rule {n} {z = z} w = rw (paired_rule w) (sym (append-nil (rule_words (of_pairs n) z)))

-- a joint rule has a part if one of the two has
joint-ordered : (n : model.Sizes) (o u : Option Order) → there_is (joint_order n o u) ≡ there_is o || there_is u
unfolding joint_order
joint-ordered n none none = refl
joint-ordered n none (some u) = refl
joint-ordered n (some o) none = refl
joint-ordered n (some o) (some u) = refl

joint-counted : (n : model.Sizes) (φ ψ : Option (List Step)) → there_is (joint_count n φ ψ) ≡ there_is φ || there_is ψ
unfolding joint_count
joint-counted n none none = refl
joint-counted n none (some ts) = refl
joint-counted n (some ss) none = refl
joint-counted n (some ss) (some ts) = refl

content-rule : {n : model.Sizes} {x y z : Rule} → JointOf n x y z → {p a : ℕ} {s : List ℕ} → RuleAt p s a x
    → (get_or s a 0 ≢ 33) × (get_or s a 0 ≢ 38)
    → map_of (there_is (parts_of x).order || there_is (parts_of y).order) (there_is (parts_of x).count || there_is (parts_of y).count)
    ∷ (order_part (joint_order n (parts_of x).order (parts_of y).order)
    ++ (count_part (of_pairs n) (joint_count n (parts_of x).count (parts_of y).count)
    ++ (pair n.of_T (parts_of x).target (parts_of y).target ∷ [])))
    ≡ rule_words (of_pairs n) z
content-rule (texts k s t) h (e, f) = absurd (e (text_key h).0)
content-rule (tags g c d s t) h (e, f) = absurd (f (tag_key h).0)
content-rule {n} (contents o u φ ψ s t) h d =
    sym (content-words (of_pairs n) (joint_order n o u) (joint_count n φ ψ) (pair n.of_T s t)
    ∙ rw (joint-ordered n o u, joint-counted n φ ψ))

-- the positions of a joint rule that has an order part of each
few-both : {n : model.Sizes} {x y z : Rule} → JointOf n x y z → positions_of z ≤ 64 → {o u : Order} → (parts_of x).order ≡ some o
    → (parts_of y).order ≡ some u
    → o.positions * u.positions ≤ 64
unfolding joint_order pair_order positions_of
few-both (texts k s t) h e f = let z : ◌≡◌ {A = ℕ} 0 1 = cc e in absurd (omega arith)
few-both (tags g c d s t) h e f = let z : ◌≡◌ {A = ℕ} 0 1 = cc e in absurd (omega arith)
few-both (contents o u φ ψ s t) h e f = rw (e, f) at h

-- ---- two rules

module _ (r : RulePair) where
  pub states-S : (sheet_in r.s.sheet.words.now).states ≡ r.sizes.s
  states-S = sym (ap (λ (n : model.Sizes). n.of_S) r.sized)

  pub states-T : (sheet_in r.t.sheet.words.now).states ≡ r.sizes.t
  states-T = sym (ap (λ (n : model.Sizes). n.of_T) r.sized)

  -- the targets make a pair
  module _ {a b : ℕ} (ea : a ≡ (parts_in r.s).target) (eb : b ≡ (parts_in r.t).target) where
    pub targets_small : a < (sheet_in r.s.sheet.words.now).states → b < (sheet_in r.t.sheet.words.now).states → (a ≤ 255) × (b ≤ 255)
    targets_small la lb = (omega (arith, few-S r.sizes.few, states-S), omega (arith, few-T r.sizes.few, states-T))

    pub targets_pair : {q : ℕ} → q ≡ pair r.sizes.t a b → q ≡ target_in r
    targets_pair eq = rw (eq, ea, eb) refl

  -- ---- order parts: of both, of one, or of none

  module _ {x : Part} (h : OrderIn r.s x) where
    order_S : OrderAt r.sizes.s x.words.now x.at h.order
    order_S = rw (← states-S, ← h.words) h.there

  module _ {y : Part} (k : OrderIn r.t y) where
    order_T : OrderAt r.sizes.t y.words.now y.at k.order
    order_T = rw (← states-T, ← k.words) k.there

  pub orders_pairable : FewPositions (pair_joint r) → {x y : Part} → OrderIn r.s x → OrderIn r.t y
      → PairableOrders r.sizes (record { s = x; t = y })
  orders_pairable few h k =
      let (z, w) = alike_paired r in
      let positions = few-both w (few z (rw (paired_rule w) (Memᴰ.head refl))) h.has k.has in
      record { of_S = h.order; of_T = k.order; at_S = order_S h; at_T = order_T k; few = positions }

  module _ (Written : List ℕ → Type 0) where
    pub orders_paired : {x y : Part} → OrderIn r.s x → OrderIn r.t y → PairsOrders r.sizes (record { s = x; t = y }) Written
        → Written (order_in r)
    unfolding joint_order
    orders_paired h k w = rw (h.has, k.has) (w h.order k.order (order_S h) (order_T k))

    pub order-S_lifted : {x : Part} → OrderIn r.s x → (parts_in r.t).order ≡ none
        → LiftsOrder (record { side = sides.S; sizes = r.sizes }) x Written → Written (order_in r)
    unfolding joint_order
    order-S_lifted h e w = rw (h.has, e) (w h.order (order_S h))

    pub order-T_lifted : {y : Part} → (parts_in r.s).order ≡ none → OrderIn r.t y
        → LiftsOrder (record { side = sides.T; sizes = r.sizes }) y Written → Written (order_in r)
    unfolding joint_order
    order-T_lifted e k w = rw (e, k.has) (w k.order (order_T k))

    pub no_orders : (parts_in r.s).order ≡ none → (parts_in r.t).order ≡ none → Written [] → Written (order_in r)
    unfolding joint_order
    no_orders e f w = rw (e, f) w

  -- ---- count parts, likewise

  module _ {x : Part} (h : CountIn r.s x) where
    count_S : CountAt r.sizes.s x.words.now x.at h.steps
    count_S = rw (← states-S, ← h.words) h.there

  module _ {y : Part} (k : CountIn r.t y) where
    count_T : CountAt r.sizes.t y.words.now y.at k.steps
    count_T = rw (← states-T, ← k.words) k.there

  module _ (Written : List ℕ → Type 0) where
    pub counts-joined : {x y : Part} → CountIn r.s x → CountIn r.t y → JoinsCounts r.sizes (record { s = x; t = y }) Written
        → Written (count_in r)
    unfolding joint_count
    counts-joined h k w = rw (h.has, k.has) (w h.steps k.steps (count_S h) (count_T k))

    pub count-S_lifted : {x : Part} → CountIn r.s x → (parts_in r.t).count ≡ none
        → LiftsCount (record { side = sides.S; sizes = r.sizes }) x Written → Written (count_in r)
    unfolding joint_count
    count-S_lifted h e w = rw (h.has, e) (w h.steps (count_S h))

    pub count-T_lifted : {y : Part} → (parts_in r.s).count ≡ none → CountIn r.t y
        → LiftsCount (record { side = sides.T; sizes = r.sizes }) y Written → Written (count_in r)
    unfolding joint_count
    count-T_lifted e k w = rw (e, k.has) (w k.steps (count_T k))

    pub no_counts : (parts_in r.s).count ≡ none → (parts_in r.t).count ≡ none → Written [] → Written (count_in r)
    unfolding joint_count
    no_counts e f w = rw (e, f) w

pub content-words_in : (r : RulePair)
    → (get_or r.s.sheet.words.now r.s.at 0 ≢ 33) × (get_or r.s.sheet.words.now r.s.at 0 ≢ 38) → {m q : ℕ} → m ≡ map_in r → q ≡ target_in r
    → (m ∷ []) ++ (order_in r ++ (count_in r ++ (q ∷ []))) ≡ pair_words r
content-words_in r d em eq = let (z, w) = alike_paired r in rw (em, eq) (content-rule w (stands r.s).begins d ∙ one_rule w)
