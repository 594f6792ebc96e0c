-- A word of pairs satisfies a joint count part exactly if its halves satisfy the two count parts.
use mathlib.Core.Path.{◌≡◌, refl, sym, ap, ap₂, ◌∙◌}
use mathlib.Core.Logic.{◌⊎◌, ◌↔◌, ◌≢◌}
use mathlib.Core.Bool.{Bool, true, false, cond}
use mathlib.Core.List.Memᴰ
use mathlib.Core.List.{List, [], ◌∷◌, ◌++◌, map, flat_map, append-nil, append_assoc}
use mathlib.Core.Option.{Option, none, some}
use Prim.Native.Nat.{ℕ, zero, suc, ◌+◌, ◌-◌, ◌*◌, ◌≤◌, ◌<◌}
use native.Mathlib.Omega.{arith}
use lib.Dec.{eqb}
use lib.IntN.{ℤ, pos, negsuc, neg_ℤ, ◌+ℤ◌, ◌*ℤ◌, +ℤ_idl, +ℤ_idr, +ℤ_assoc, +ℤ_comm, neg_ℤ-+ℤ, *ℤ-zero}
use lib.Signed.{◌≤ℤ◌}
use lib.ListN.{length, get_or, length-append, length-map, get_or-append}
use lib.Seq.{get_or-append-add}
use Rattle.model.specs.Lists.{◌∈◌, only, Ascending}
use Rattle.model.specs.Sheet.{Coefficient, Step, at_most, remainder, not_step, and_step, or_step, CountInRange, IfAny}
use Rattle.model.specs.Words.{occurrences, total, Asks, LastAsks, Satisfied}
use Rattle.model.specs.Compose.{Side, S, T, half, Sizes, coefficient_of, lift_sum, lift_step, joint_count, of_pairs}
use Rattle.model.proofs.Tests.{eqb_yes, eqb-false}
use Rattle.model.proofs.ListLaws.{∈-numbers, asc_from}
use Rattle.model.proofs.Pairs.{AllBelow, halves}

-- ---- sums, state by state

times-+ : (c : ℤ) (m n : ℕ) → c *ℤ pos (m + n) ≡ (c *ℤ pos m) +ℤ (c *ℤ pos n)
times-+ (pos a) m n = let e : a * (m + n) ≡ a * m + a * n = omega arith in ap pos e
times-+ (negsuc a) m n =
    let e : suc a * (m + n) ≡ suc a * m + suc a * n = omega arith in
    ap (λ (k : ℕ). neg_ℤ (pos k)) e ∙ neg_ℤ-+ℤ (pos (suc a * m)) (pos (suc a * n))

swap_middle : (a b c d : ℤ) → (a +ℤ b) +ℤ (c +ℤ d) ≡ (a +ℤ c) +ℤ (b +ℤ d)
swap_middle a b c d =
    +ℤ_assoc a b (c +ℤ d) ∙ ap (λ (x : ℤ). a +ℤ x)
    (sym (+ℤ_assoc b c d) ∙ ap (λ (x : ℤ). x +ℤ d) (+ℤ_comm b c) ∙ +ℤ_assoc c b d) ∙ sym (+ℤ_assoc a c (b +ℤ d))

-- what one child in state q adds to a sum
abbrev weight : List Coefficient → ℕ → ℤ
weight cs q = total cs (q ∷ [])

total_nil : (cs : List Coefficient) → total cs [] ≡ pos zero
unfolding total occurrences
total_nil [] = refl
total_nil (c ∷ cs) = ap₂ ◌+ℤ◌ (*ℤ-zero c.times) (total_nil cs)

total-cons : (cs : List Coefficient) (q : ℕ) (w : List ℕ) → total cs (q ∷ w) ≡ weight cs q +ℤ total cs w
unfolding total occurrences
total-cons [] q w = refl
total-cons (c ∷ cs) q w =
    let hit : ℕ = cond (eqb c.state q) 1 0 in
    let there : ℕ = occurrences c.state w in
    let e : hit + there ≡ (hit + 0) + there = omega arith in
    ap₂ ◌+ℤ◌ (ap (λ (k : ℕ). c.times *ℤ pos k) e ∙ times-+ c.times (hit + 0) there) (total-cons cs q w)
    ∙ swap_middle (c.times *ℤ pos (hit + 0)) (c.times *ℤ pos there) (weight cs q) (total cs w)

total-append : (cs ds : List Coefficient) (w : List ℕ) → total (cs ++ ds) w ≡ total cs w +ℤ total ds w
unfolding total
total-append [] ds w = sym (+ℤ_idl (total ds w))
total-append (c ∷ cs) ds w =
    let first : ℤ = c.times *ℤ pos (occurrences c.state w) in
    ap (λ (z : ℤ). first +ℤ z) (total-append cs ds w) ∙ sym (+ℤ_assoc first (total cs w) (total ds w))

-- Of the lists F y, for y in an ascending list, only F x has a weight at x.
module _ (F : ℕ → List Coefficient) (x : ℕ) (other : (y : ℕ) → y ≢ x → weight (F y) x ≡ pos zero) where
  weight_apart : (l : List ℕ) → ((y : ℕ) → y ∈ l → y ≢ x) → weight (flat_map F l) x ≡ pos zero
  unfolding flat_map total
  weight_apart [] apart = refl
  weight_apart (y ∷ l) apart =
      total-append (F y) (flat_map F l) (x ∷ []) ∙ ap₂ ◌+ℤ◌ (other y (apart y (Memᴰ.head refl)))
      (weight_apart l (λ z m. apart z (Memᴰ.tail m)))

  weight_at : {l : List ℕ} → x ∈ l → Ascending l → weight (flat_map F l) x ≡ weight (F x) x
  unfolding flat_map
  weight_at (Memᴰ.head {x = y} {xs = l} e) (a, al) =
      total-append (F y) (flat_map F l) (x ∷ [])
      ∙ ap₂ ◌+ℤ◌ (ap (λ (z : ℕ). weight (F z) x) (sym e)) (weight_apart l (λ z m i. let h = a z m in omega arith)) ∙ +ℤ_idr (weight (F x) x)
  weight_at (Memᴰ.tail {x = y} {xs = l} m) (a, al) =
      total-append (F y) (flat_map F l) (x ∷ [])
      ∙ ap₂ ◌+ℤ◌ (other y (λ i. let h = a x m in omega arith)) (weight_at m al) ∙ +ℤ_idl (weight (F x) x)

  weight_pick : {l : List ℕ} → Ascending l → x ∈ l → weight (flat_map F l) x ≡ weight (F x) x
  weight_pick al m = weight_at m al

-- ---- lifted sums

only_weight : (b : Bool) (z : ℤ) (x : ℕ) → weight (only b (record { state = x; times = z })) x ≡ z *ℤ pos (cond b 1 0 + 0)
unfolding only total occurrences
only_weight true z x = rw (eqb_yes {m = x} {n = x} refl) (+ℤ_idr (z *ℤ pos 1))
only_weight false z x = sym (*ℤ-zero z)

only_apart : (b : Bool) (z : ℤ) (y x : ℕ) → y ≢ x → weight (only b (record { state = y; times = z })) x ≡ pos zero
unfolding only total occurrences
only_apart true z y x h = rw (eqb-false h) (+ℤ_idr (z *ℤ pos 0) ∙ *ℤ-zero z)
only_apart false z y x h = refl

-- a pair's coefficients weigh, at that pair, what those of its half weigh there, and nothing at another pair
coefficient_weight : (cs : List Coefficient) (q x : ℕ) → weight (coefficient_of cs q x) x ≡ weight cs q
unfolding coefficient_of flat_map total occurrences
coefficient_weight [] q x = refl
coefficient_weight (c ∷ cs) q x =
    total-append (only (eqb c.state q) _) (coefficient_of cs q x) (x ∷ []) ∙ ap₂ ◌+ℤ◌ (only_weight (eqb c.state q) c.times x)
    (coefficient_weight cs q x)

coefficient_apart : (cs : List Coefficient) (q y x : ℕ) → y ≢ x → weight (coefficient_of cs q y) x ≡ pos zero
unfolding coefficient_of flat_map total
coefficient_apart [] q y x h = refl
coefficient_apart (c ∷ cs) q y x h =
    total-append (only (eqb c.state q) _) (coefficient_of cs q y) (x ∷ []) ∙ ap₂ ◌+ℤ◌ (only_apart (eqb c.state q) c.times y x h)
    (coefficient_apart cs q y x h)

-- ---- steps one after another

-- what each of the steps asks, after the earlier ones
each_asks : List ℕ → List (Type 0) → List Step → List (Type 0)
each_asks w earlier [] = earlier
each_asks w earlier (s ∷ ss) = each_asks w (earlier ++ (Asks w earlier s ∷ [])) ss

each_append : (w : List ℕ) (earlier : List (Type 0)) (ss ts : List Step) → each_asks w earlier (ss ++ ts) ≡ each_asks w
    (each_asks w earlier ss) ts
unfolding each_asks
each_append w earlier [] ts = refl
each_append w earlier (s ∷ ss) ts = each_append w (earlier ++ (Asks w earlier s ∷ [])) ss ts

length_asks : (w : List ℕ) (earlier : List (Type 0)) (ss : List Step) → length (each_asks w earlier ss) ≡ length earlier + length ss
unfolding each_asks
length_asks w earlier [] = omega arith
length_asks w earlier (s ∷ ss) =
    omega (arith, length_asks w (earlier ++ (Asks w earlier s ∷ [])) ss, length-append earlier (Asks w earlier s ∷ []))

-- the last of them decides
last-is : (w : List ℕ) (earlier : List (Type 0)) (s : Step) (ss : List Step)
    → get_or (each_asks w earlier (s ∷ ss)) (length earlier + length ss) ⊥ ≡ LastAsks w earlier (s ∷ ss)
unfolding each_asks
last-is w earlier s [] = get_or-append-add earlier (Asks w earlier s ∷ []) 0 ⊥
last-is w earlier s (t ∷ ss) =
    let e : length earlier + suc (length ss) ≡ length (earlier ++ (Asks w earlier s ∷ [])) + length ss
    = omega (arith, length-append earlier (Asks w earlier s ∷ [])) in
    rw e (last-is w (earlier ++ (Asks w earlier s ∷ [])) t ss)

-- a step after others asks by what these ask
last-after : (w : List ℕ) (earlier : List (Type 0)) (ss : List Step) (s : Step) → LastAsks w earlier (ss ++ (s ∷ [])) ≡ Asks w
    (each_asks w earlier ss) s
unfolding each_asks
last-after w earlier [] s = refl
last-after w earlier (t ∷ []) s = refl
last-after w earlier (t ∷ u ∷ ss) s = last-after w (earlier ++ (Asks w earlier t ∷ [])) (u ∷ ss) s

-- ---- lifted parts

module _ (side : Side) (n : Sizes) where
  lifted_weight : (cs : List Coefficient) {x : ℕ} → x < of_pairs n → weight (lift_sum side n cs) x ≡ weight cs (half side n.of_T x)
  unfolding lift_sum
  lifted_weight cs {x} h =
      weight_pick (λ y. coefficient_of cs (half side n.of_T y) y) x (λ y d. coefficient_apart cs _ y x d) (asc_from (of_pairs n) 0)
      (∈-numbers (of_pairs n) h)
      ∙ coefficient_weight cs (half side n.of_T x) x

  -- a lifted sum of a word is the sum of its halves
  lifted_total : (cs : List Coefficient) (w : List ℕ) → AllBelow (of_pairs n) w → total (lift_sum side n cs) w ≡ total cs (halves side n w)
  lifted_total cs [] b = total_nil (lift_sum side n cs) ∙ sym (total_nil cs)
  lifted_total cs (x ∷ w) (h, b) =
      total-cons (lift_sum side n cs) x w ∙ ap₂ ◌+ℤ◌ (lifted_weight cs h)
      (lifted_total cs w b) ∙ sym (total-cons cs (half side n.of_T x) (halves side n w))

  -- ---- lifted steps, after any number of other steps

  module _ (w : List ℕ) (b : AllBelow (of_pairs n) w) (before : List (Type 0)) where
    lifted_asks : (earlier : List (Type 0)) (s : Step) → Asks w (before ++ earlier) (lift_step side n (length before) s) ≡ Asks
        (halves side n w) earlier s
    unfolding lift_step
    lifted_asks earlier (at_most cs k) = ap (λ (z : ℤ). z ≤ℤ k) (lifted_total cs w b)
    lifted_asks earlier (remainder cs m r) = ap (λ (z : ℤ). (k : ℤ) × (z ≡ pos r +ℤ (k *ℤ pos m))) (lifted_total cs w b)
    lifted_asks earlier (not_step i) = ap (λ (P : Type 0). P → ⊥) (get_or-append-add before earlier i ⊥)
    lifted_asks earlier (and_step i j) =
        ap₂ (λ (P Q : Type 0). P × Q) (get_or-append-add before earlier i ⊥) (get_or-append-add before earlier j ⊥)
    lifted_asks earlier (or_step i j) = ap₂ ◌⊎◌ (get_or-append-add before earlier i ⊥) (get_or-append-add before earlier j ⊥)

    lifted_each : (earlier : List (Type 0)) (ss : List Step)
        → each_asks w (before ++ earlier) (map (lift_step side n (length before)) ss) ≡ before ++ each_asks (halves side n w) earlier ss
    unfolding each_asks
    lifted_each earlier [] = refl
    lifted_each earlier (s ∷ ss) =
        ap (λ (l : List (Type 0)). each_asks w l (map (lift_step side n (length before)) ss))
        (ap (λ (P : Type 0). (before ++ earlier) ++ (P ∷ [])) (lifted_asks earlier s) ∙ append_assoc before earlier _)
        ∙ lifted_each (earlier ++ (Asks (halves side n w) earlier s ∷ [])) ss

  lifted_last : (w : List ℕ) → AllBelow (of_pairs n) w → (ss : List Step) → 1 ≤ length ss → LastAsks w []
      (map (lift_step side n 0) ss) ≡ LastAsks (halves side n w) [] ss
  lifted_last w b [] h = absurd (omega arith)
  lifted_last w b (s ∷ ss) h =
      sym (last-is w [] (lift_step side n 0 s) (map (lift_step side n 0) ss))
      ∙ ap₂ (λ (l : List (Type 0)) (k : ℕ). get_or l (0 + k) ⊥) (lifted_each w b [] [] (s ∷ ss)) (length-map ss (lift_step side n 0))
      ∙ last-is (halves side n w) [] s ss

-- ---- joint count parts

module _ (n : Sizes) (w : List ℕ) (b : AllBelow (of_pairs n) w) where
  both-each : (ss ts : List Step)
      → each_asks w [] (map (lift_step S n 0) ss ++ map (lift_step T n (length ss)) ts) ≡ each_asks (halves S n w) [] ss ++ each_asks
      (halves T n w) [] ts
  both-each ss ts =
      let front : List (Type 0) = each_asks (halves S n w) [] ss in
      let e : length ss ≡ length front = omega (arith, length_asks (halves S n w) [] ss) in
      each_append w [] (map (lift_step S n 0) ss) (map (lift_step T n (length ss)) ts)
      ∙ ap₂ (λ (l : List (Type 0)) (k : ℕ). each_asks w l (map (lift_step T n k) ts))
      (lifted_each S n w b [] [] ss ∙ sym (append-nil front)) e
      ∙ lifted_each T n w b front [] ts

  both_satisfied : (ss ts : List Step) → 1 ≤ length ss → 1 ≤ length ts
      → Satisfied (joint_count n (some ss) (some ts)) w ≡ (LastAsks (halves S n w) [] ss × LastAsks (halves T n w) [] ts)
  unfolding joint_count
  both_satisfied [] ts h k = absurd (omega arith)
  both_satisfied (s ∷ ss) [] h k = absurd (omega arith)
  both_satisfied (s ∷ ss) (t ∷ ts) h k =
      let m : ℕ = suc (length ss) in
      let l : ℕ = suc (length ts) in
      let front : List (Type 0) = each_asks (halves S n w) [] (s ∷ ss) in
      let rest : List (Type 0) = each_asks (halves T n w) [] (t ∷ ts) in
      let e : m ≡ length front = omega (arith, length_asks (halves S n w) [] (s ∷ ss)) in
      let i : m - 1 ≡ 0 + length ss = omega arith in
      let j : l - 1 ≡ 0 + length ts = omega arith in
      let final : Step = and_step (m - 1) (m + (l - 1)) in
      ap (λ (x : List Step). LastAsks w [] x)
      (sym (append_assoc (map (lift_step S n 0) (s ∷ ss)) (map (lift_step T n m) (t ∷ ts)) (final ∷ [])))
      ∙ last-after w [] (map (lift_step S n 0) (s ∷ ss) ++ map (lift_step T n m) (t ∷ ts)) final
      ∙ ap (λ (x : List (Type 0)). Asks w x final) (both-each (s ∷ ss) (t ∷ ts))
      ∙ ap₂ (λ (P Q : Type 0). P × Q)
      (get_or-append front rest ⊥ (m - 1) (omega arith) ∙ ap (λ (x : ℕ). get_or front x ⊥) i ∙ last-is (halves S n w) [] s ss)
      (ap (λ (x : ℕ). get_or (front ++ rest) (x + (l - 1)) ⊥) e ∙ get_or-append-add front rest (l - 1) ⊥
      ∙ ap (λ (x : ℕ). get_or rest x ⊥) j ∙ last-is (halves T n w) [] t ts)

  -- a word satisfies a joint count part exactly when its halves satisfy the two
  pub joint_satisfied : (φ ψ : Option (List Step)) → IfAny (CountInRange n.of_S) φ → IfAny (CountInRange n.of_T) ψ
      → Satisfied (joint_count n φ ψ) w ↔ (Satisfied φ (halves S n w) × Satisfied ψ (halves T n w))
  unfolding joint_count
  joint_satisfied none none ok ok' = (λ h. (tt, tt), λ h. tt)
  joint_satisfied (some ss) none ok ok' = rw (lifted_last S n w b ss ok.some_steps) (λ h. (h, tt), λ h. h.0)
  joint_satisfied none (some ts) ok ok' = rw (lifted_last T n w b ts ok'.some_steps) (λ h. (tt, h), λ h. h.1)
  joint_satisfied (some ss) (some ts) ok ok' = rw (both_satisfied ss ts ok.some_steps ok'.some_steps) (λ h. h, λ h. h)
