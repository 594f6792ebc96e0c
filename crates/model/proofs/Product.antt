-- The product of two automata reaches a pair exactly if each half is reached (source document 001, Proposition 6).
use mathlib.Core.Path.{◌≡◌, refl, sym, ap, ap₂, subst}
use mathlib.Core.Logic.{◌↔◌}
use mathlib.Core.List.Memᴰ
use mathlib.Core.List.{List, [], ◌∷◌, flat_map}
use mathlib.Core.Option.{Option}
use Prim.Native.Nat.{ℕ, ◌*◌, ◌<◌}
use lib.Arith.{digits_lt}
use lib.Dec.{eqb}
use Rattle.model.specs.Lists.{◌∈◌}
use Rattle.model.specs.Tree.{Element, Document, nodes}
use Rattle.model.specs.Sheet.{Sheet, Rule, one, two, three, Order, Step, RuleInRange, InRange}
use Rattle.model.specs.Words.{InLanguage, Satisfied}
use Rattle.model.specs.Relation.{NotOne, To, type_1, type_2, ToD, lone, type_3, Each, no_more, more, Single, Takes, Accepts}
use Rattle.model.specs.Compose.{pair, Side, S, T, half, Sizes, joint_order, joint_count, pair_rule, joint_rules, sizes, joint}
use Rattle.model.specs.Compose.{of_side, of_pairs}
use Rattle.model.proofs.Tests.{same, eqb_yes}
use Rattle.model.proofs.ListLaws.{∈-only, only_test, only_eq, ∈-each, each-∈, ∈-grid}
use Rattle.model.proofs.Pairs.{either, on_both, half-pair, pair_halves, same_halves, ∈_pairs, AllBelow, halves}
use Rattle.model.proofs.JoinOrder.{joint_language}
use Rattle.model.proofs.JoinCount.{joint_satisfied}
use Rattle.model.proofs.RuleTargets.{target_of, target_in_range, reached-below, each_below}

-- ---- rules

-- which rules pair up, one of each side, and what they give
pub data Paired (n : Sizes) : (Side → Rule) → Rule → Type 0 where
  ones : {k : ℕ} {q : Side → ℕ} → Paired n (λ side. one k (q side)) (one k (pair n.of_T (q S) (q T)))
  twos : {a : ℕ} {c q : Side → ℕ} → Paired n (λ side. two a (c side) (q side))
      (two a (pair n.of_T (c S) (c T)) (pair n.of_T (q S) (q T)))
  threes : {o : Side → Option Order} {φ : Side → Option (List Step)} {q : Side → ℕ}
      → Paired n (λ side. three (o side) (φ side) (q side))
      (three (joint_order n (o S) (o T)) (joint_count n (φ S) (φ T)) (pair n.of_T (q S) (q T)))

∈-pair-rule : {n : Sizes} {r : Side → Rule} {z : Rule} → Paired n r z → z ∈ pair_rule n (r S) (r T)
unfolding pair_rule
∈-pair-rule (ones {k = k}) = ∈-only (eqb k k) _ (eqb_yes {m = k} refl)
∈-pair-rule (twos {a = a}) = ∈-only (eqb a a) _ (eqb_yes {m = a} refl)
∈-pair-rule threes = Memᴰ.head refl

paired_target : {n : Sizes} {r : Side → Rule} {z : Rule} → Paired n r z → target_of z ≡ pair n.of_T (target_of (r S)) (target_of (r T))
paired_target ones = refl
paired_target twos = refl
paired_target threes = refl

module _ (n : Sizes) (R : Side → List Rule) where
  -- a rule of the product is given by a rule of each side
  abbrev pub FromPair : Rule → Type 0
  FromPair z = (r : Side → Rule) × ((side : Side) → r side ∈ R side) × Paired n r z

  from-pair : (r : Side → Rule) {y z : Rule} → r S ∈ R S → r T ∈ R T → Paired n r y → z ≡ y → FromPair z
  from-pair r m l x e = (r, on_both (λ side. r side ∈ R side) m l, subst (Paired n r) (sym e) x)

  pair-rule-∈ : (r u : Rule) {z : Rule} → r ∈ R S → u ∈ R T → z ∈ pair_rule n r u → FromPair z
  unfolding pair_rule
  pair-rule-∈ (one k s) (one j t) m l h =
      let e : k ≡ j = same k j (only_test (eqb k j) _ h) in
      from-pair (λ side. one k (either s t side)) m (Memᴰ.cast (ap (λ (i : ℕ). one i t) e) l) ones (only_eq (eqb k j) _ h)
  pair-rule-∈ (one k s) (two b d t) m l h = absurd (Memᴰ.not-nil h)
  pair-rule-∈ (one k s) (three u ψ t) m l h = absurd (Memᴰ.not-nil h)
  pair-rule-∈ (two a c s) (one j t) m l h = absurd (Memᴰ.not-nil h)
  pair-rule-∈ (two a c s) (two b d t) m l h =
      let e : a ≡ b = same a b (only_test (eqb a b) _ h) in
      from-pair (λ side. two a (either c d side) (either s t side)) m (Memᴰ.cast (ap (λ (i : ℕ). two i d t) e) l) twos
      (only_eq (eqb a b) _ h)
  pair-rule-∈ (two a c s) (three u ψ t) m l h = absurd (Memᴰ.not-nil h)
  pair-rule-∈ (three o φ s) (one j t) m l h = absurd (Memᴰ.not-nil h)
  pair-rule-∈ (three o φ s) (two b d t) m l h = absurd (Memᴰ.not-nil h)
  pair-rule-∈ (three o φ s) (three u ψ t) m l h = from-pair (λ side. three (either o u side) (either φ ψ side) (either s t side)) m l threes
      (Memᴰ.eq_of_singleton h)

  ∈-joint : (r : Side → Rule) {z : Rule} → r S ∈ R S → r T ∈ R T → Paired n r z → z ∈ joint_rules n (R S) (R T)
  unfolding joint_rules
  ∈-joint r m l x = ∈-each (λ r. flat_map (pair_rule n r) (R T)) m (∈-each (pair_rule n (r S)) l (∈-pair-rule x))

  pub joint-∈ : {z : Rule} → z ∈ joint_rules n (R S) (R T) → FromPair z
  unfolding joint_rules
  joint-∈ m =
      let (r, k, h) = each-∈ (λ r. flat_map (pair_rule n r) (R T)) (R S) m in
      let (u, l, g) = each-∈ (pair_rule n r) (R T) h in
      pair-rule-∈ r u k l g

-- ---- the relation

module _ (s t : Sheet) (s_ok : InRange s) (t_ok : InRange t) where
  abbrev n : Sizes
  n = sizes s t

  abbrev p : ℕ
  p = t.states

  abbrev R : Side → List Rule
  R side = (either s t side).rules

  abbrev J : List Rule
  J = joint_rules n (R S) (R T)

  in_range : (side : Side) (r : Rule) → r ∈ R side → RuleInRange (of_side side n) (either s t side).tags r
  in_range S = s_ok.rules
  in_range T = t_ok.rules

  target_below : (side : Side) (r : Rule) → r ∈ R side → target_of r < of_side side n
  target_below side r m = target_in_range (of_side side n) (either s t side).tags r (in_range side r m)

  joint-target-below : (z : Rule) → z ∈ J → target_of z < of_pairs n
  joint-target-below z m =
      let (r, k, x) = joint-∈ n R m in
      subst (λ (q : ℕ). q < of_pairs n) (sym (paired_target x)) (digits_lt (target_below S (r S) (k S)) (target_below T (r T) (k T)))

  -- each side's half of a rule of the product is a rule of that side
  one_half : (side : Side) {k x : ℕ} → FromPair n R (one k x) → one k (half side p x) ∈ R side
  one_half side (r, m, ones {k = k} {q = q}) = Memᴰ.cast (ap (one k) (half-pair side q (target_below T _ (m T)))) (m side)

  two_half : (side : Side) {a c x : ℕ} → FromPair n R (two a c x) → two a (half side p c) (half side p x) ∈ R side
  two_half side (r, m, twos {a = a} {c = c} {q = q}) =
      let (_, _, below, below') = in_range T _ (m T) in
      Memᴰ.cast (ap₂ (two a) (half-pair side c below) (half-pair side q below')) (m side)

  three_half : (side : Side) {d : Document} {o : Option Order} {φ : Option (List Step)} {w : List ℕ} {x : ℕ}
      → NotOne d → Each J d w → Each (R side) d (halves side n w) → InLanguage o w → Satisfied φ w → FromPair n R (three o φ x) → ToD
      (R side) d (half side p x)
  three_half side {d} {w = w} not_one each each' i f (r, m, threes {o = o} {φ = φ} {q = q}) =
      let below : AllBelow (of_pairs n) w = each_below joint-target-below each in
      let (oS, φS, qS) = in_range S _ (m S) in
      let (oT, φT, qT) = in_range T _ (m T) in
      let (iS, iT) = (joint_language n (o S) (o T) oS oT w below).0 i in
      let (fS, fT) = (joint_satisfied n w below (φ S) (φ T) φS φT).0 f in
      subst (ToD (R side) d) (sym (half-pair side q qT))
      (type_3 not_one each'
      (on_both (λ z. InLanguage (o z) (halves z n w)) iS iT side)
      (on_both (λ z. Satisfied (φ z) (halves z n w)) fS fT side)
      (m side))

  -- where a pair is reached, each half is
  mutual
    to_half : (side : Side) {e : Element} {x : ℕ} → To J e x → To (R side) e (half side p x)
    to_half side (type_1 m) = type_1 (one_half side (joint-∈ n R m))
    to_half side (type_2 h m) = type_2 (to_halfD side h) (two_half side (joint-∈ n R m))

    to_halfD : (side : Side) {d : Document} {x : ℕ} → ToD J d x → ToD (R side) d (half side p x)
    to_halfD side (lone h) = lone (to_half side h)
    to_halfD side (type_3 not_one r i f m) = three_half side not_one r (each-half side r) i f (joint-∈ n R m)

    each-half : (side : Side) {d : Document} {w : List ℕ} → Each J d w → Each (R side) d (halves side n w)
    each-half side no_more = no_more
    each-half side (more h r) = more (to_half side h) (each-half side r)

  -- rules of the two sides that pair up give a rule of the product
  one_pair : {k q r : ℕ} → one k q ∈ R S → one k r ∈ R T → one k (pair p q r) ∈ J
  one_pair {k} {q} {r} m l = ∈-joint n R (λ side. one k (either q r side)) m l ones

  two_pair : {a b c q r : ℕ} → two a b q ∈ R S → two a c r ∈ R T → two a (pair p b c) (pair p q r) ∈ J
  two_pair {a} {b} {c} {q} {r} m l = ∈-joint n R (λ side. two a (either b c side) (either q r side)) m l twos

  three_pair : {d : Document} {o u : Option Order} {φ ψ : Option (List Step)} {w : List ℕ} {q r : ℕ} → NotOne d → Each J d w
      → InLanguage o (halves S n w) → InLanguage u (halves T n w) → Satisfied φ (halves S n w) → Satisfied ψ (halves T n w)
      → three o φ q ∈ R S → three u ψ r ∈ R T → ToD J d (pair p q r)
  three_pair {o = o} {u} {φ} {ψ} {w} {q} {r} not_one each i j f g m l =
      let below : AllBelow (of_pairs n) w = each_below joint-target-below each in
      let (oS, φS, qS) = in_range S _ m in
      let (oT, φT, qT) = in_range T _ l in
      type_3 not_one each ((joint_language n o u oS oT w below).1 (i, j)) ((joint_satisfied n w below φ ψ φS φT).1 (f, g))
      (∈-joint n R (λ side. three (either o u side) (either φ ψ side) (either q r side)) m l threes)

  -- where two states are reached, their pair is
  mutual
    to_pair : {e : Element} {q r : ℕ} → To (R S) e q → To (R T) e r → To J e (pair p q r)
    to_pair (type_1 m) (type_1 l) = type_1 (one_pair m l)
    to_pair (type_2 h m) (type_2 k l) = type_2 (to_pairD h k) (two_pair m l)

    to_pairD : {d : Document} {q r : ℕ} → ToD (R S) d q → ToD (R T) d r → ToD J d (pair p q r)
    to_pairD (lone h) (lone k) = lone (to_pair h k)
    to_pairD (lone h) (type_3 not_one r i f m) = absurd not_one
    to_pairD (type_3 not_one r i f m) (lone k) = absurd not_one
    to_pairD (type_3 {o = o} {c = φ} not_one r i f m) (type_3 {o = u} {c = ψ} _ v j g l) =
        let (w, e, e', each) = each-pair r v in
        three_pair not_one each (subst (InLanguage o) (sym e) i) (subst (InLanguage u) (sym e') j) (subst (Satisfied φ) (sym e) f)
        (subst (Satisfied ψ) (sym e') g) m l

    each-pair : {d : Document} {v u : List ℕ} → Each (R S) d v → Each (R T) d u → (w : List ℕ) × (halves S n w ≡ v) ×
        (halves T n w ≡ u) × Each J d w
    each-pair no_more no_more = ([], refl, refl, no_more)
    each-pair (more {q = q} h r) (more {q = q'} k v) =
        let below : q' < p = reached-below (target_below T) k in
        let (w, e, e', each) = each-pair r v in (
          pair p q q' ∷ w,
          ap₂ ◌∷◌ (half-pair S (either q q') below) e,
          ap₂ ◌∷◌ (half-pair T (either q q') below) e',
          more (to_pair h k) each,
        )

  -- ---- Proposition 6

  pub joint_to : (e : Element) (x : ℕ)
      → To (joint s t).rules e x ↔ ((x < s.states * t.states) × To s.rules e (half S t.states x) × To t.rules e
      (half T t.states x))
  unfolding joint
  joint_to e x = (
    λ h. (reached-below joint-target-below h, to_half S h, to_half T h),
    λ (_, h, k). subst (To J e) (pair_halves p x) (to_pair h k),
  )

  -- on a form on which neither sheet gives two outcomes
  module _ (e : Element) (s_single : Single s.rules (nodes e)) (t_single : Single t.rules (nodes e)) where
    single : (side : Side) → Single (R side) (nodes e)
    single S = s_single
    single T = t_single

    pub joint_single : Single (joint s t).rules (nodes e)
    unfolding joint
    joint_single f m x y h k = same_halves p x y (λ side. single side f m _ _ (to_half side h) (to_half side k))

    pub joint-takes : (q r : ℕ) → r < t.states → Takes (joint s t) e (pair t.states q r) ↔ (Takes s e q × Takes t e r)
    unfolding joint
    joint-takes q r below = (there, λ ((_, h), (_, k)). (joint_single, to_pair h k))
      where
        there : Takes (joint s t) e (pair p q r) → Takes s e q × Takes t e r
        there (_, h) =
            let takes : (side : Side) → Takes (either s t side) e (either q r side)
            = λ side. (single side, subst (To (R side) e) (half-pair side (either q r) below) (to_half side h)) in
            (takes S, takes T)

    pub joint_accepts : Accepts (joint s t) e ↔ (Accepts s e × Accepts t e)
    unfolding joint
    joint_accepts = (there, λ ((q, (_, h), m), (r, (_, k), l)). (pair p q r, (joint_single, to_pair h k), ∈-grid (pair p) m l))
      where
        there : Accepts (joint s t) e → Accepts s e × Accepts t e
        there (x, (_, h), m) =
            let accepts : (side : Side) → Accepts (either s t side) e
            = λ side. (
              half side p x,
              (single side, to_half side h),
              (∈_pairs p (λ z. (either s t z).final) t_ok.final.below x).0 m side,
            ) in
            (accepts S, accepts T)
