-- Rules with one key are of one kind and make one joint rule; rules with two keys make none.
use mathlib.Core.Path.{◌≡◌, refl, sym, ap, ◌∙◌}
use mathlib.Core.Logic.{◌≢◌}
use mathlib.Core.List.{List, [], ◌∷◌, ◌++◌, flat_map}
use mathlib.Core.Option.{Option}
use Prim.Native.Nat.{ℕ, ◌+◌}
use native.Mathlib.Omega.{arith}
use Rattle.model.specs.Lists.{only}
use Rattle.model.specs.Sheet.{Order, Step, Rule, one, two, three, RuleInRange}
use Rattle.model.specs.Compose as model
use Rattle.model.specs.Compose.{pair, joint_order, joint_count, pair_rule, joint_rules}
use Rattle.model.specs.Index.{sheet_in, key}
use Rattle.model.proofs.Tests.{eqb_yes, eqb-false}
use Rattle.indexed.specs.Rules.{rule_of}
use Rattle.indexed.specs.Walks.{with_key}
use Rattle.indexed.proofs.SpotLaws.{stands}
use Rattle.indexed.proofs.WalkLaws.{with_key-all}
use Rattle.join_pairs.specs.Sides.{sizes_of}
use Rattle.join_alike.specs.declared.RulePair.{RulePair}

-- ---- two rules

pub keys_apart : (n : model.Sizes) (x y : Rule) → key y ≢ key x → pair_rule n x y ≡ []
unfolding pair_rule only key
keys_apart n (one k s) (one j t) d = rw (eqb-false {m = k} {n = j} (λ e. d (sym e)))
keys_apart n (one k s) (two b c t) d = refl
keys_apart n (one k s) (three u ψ t) d = refl
keys_apart n (two a c s) (one j t) d = refl
keys_apart n (two a c s) (two b e t) d = rw (eqb-false {m = a} {n = b} (λ e. d (ap (λ (g : ℕ). 2 + g) (sym e))))
keys_apart n (two a c s) (three u ψ t) d = refl
keys_apart n (three o φ s) (one j t) d = refl
keys_apart n (three o φ s) (two b e t) d = refl
keys_apart n (three o φ s) (three u ψ t) d = absurd (d refl)

-- two rules with one key, by their kind, and the joint rule that they make
pub data JointOf (n : model.Sizes) : Rule → Rule → Rule → Type 0 where
  texts : (k s t : ℕ) → JointOf n (one k s) (one k t) (one k (pair n.of_T s t))
  tags : (g c d s t : ℕ) → JointOf n (two g c s) (two g d t) (two g (pair n.of_T c d) (pair n.of_T s t))
  contents : (o u : Option Order) (φ ψ : Option (List Step)) (s t : ℕ)
      → JointOf n (three o φ s) (three u ψ t) (three (joint_order n o u) (joint_count n φ ψ) (pair n.of_T s t))

paired : (n : model.Sizes) (p q : ℕ) (x y : Rule) → RuleInRange p 64 x → RuleInRange q 64 y → key y ≡ key x → (z : Rule) × JointOf n x y z
unfolding key
paired n p q (one k s) (one j t) h i e = (one k (pair n.of_T s t), rw e (texts k s t))
paired n p q (one k s) (two b d t) h i e = absurd (omega (arith, h.1, i.0))
paired n p q (one k s) (three u ψ t) h i e = absurd (omega (arith, h.0))
paired n p q (two a c s) (one j t) h i e = absurd (omega (arith, h.0, i.1))
paired n p q (two a c s) (two b d t) h i e =
    let f : b ≡ a = omega arith in (two a (pair n.of_T c d) (pair n.of_T s t), rw f (tags a c d s t))
paired n p q (two a c s) (three u ψ t) h i e = absurd (omega (arith, h.0))
paired n p q (three o φ s) (one j t) h i e = absurd (omega (arith, i.0))
paired n p q (three o φ s) (two b d t) h i e = absurd (omega (arith, i.0))
paired n p q (three o φ s) (three u ψ t) h i e = (_, contents o u φ ψ s t)

pub paired_rule : {n : model.Sizes} {x y z : Rule} → JointOf n x y z → pair_rule n x y ≡ z ∷ []
unfolding pair_rule only
paired_rule (texts k s t) = rw (eqb_yes {m = k} refl)
paired_rule (tags g c d s t) = rw (eqb_yes {m = g} refl)
paired_rule (contents o u φ ψ s t) = refl

-- ---- two spots

-- a pair of rules makes one joint rule
pub alike_paired : (r : RulePair) → (z : Rule) × JointOf (sizes_of r.sizes) (rule_of r.s) (rule_of r.t) z
alike_paired r =
    paired (sizes_of r.sizes) (sheet_in r.s.sheet.words.now).states (sheet_in r.t.sheet.words.now).states (rule_of r.s) (rule_of r.t)
    (stands r.s).begins.ranges (stands r.t).begins.ranges r.one_key

-- ---- a rule and rules of the other sheet

module _ (n : model.Sizes) (x : Rule) where
  -- those with its key make all joint rules
  pub alike_all : {k : ℕ} → k ≡ key x → (R : List Rule) → flat_map (pair_rule n x) R ≡ flat_map (pair_rule n x) (with_key k R)
  alike_all e R = sym (with_key-all (pair_rule n x) (λ y d. keys_apart n x y (λ i. d (i ∙ sym e))) R)

  pub pairs_next : {R rest : List Rule} {y : Rule} → R ≡ y ∷ rest
      → flat_map (pair_rule n x) R ≡ pair_rule n x y ++ flat_map (pair_rule n x) rest
  unfolding flat_map
  pairs_next e = rw e refl

  pub pairs_none : {R : List Rule} → R ≡ [] → flat_map (pair_rule n x) R ≡ []
  unfolding flat_map
  pairs_none e = rw e refl

-- ---- rules of one sheet and all rules of the other

module _ (n : model.Sizes) (Q : List Rule) where
  pub rows_next : {R rest : List Rule} {x : Rule} → R ≡ x ∷ rest
      → joint_rules n R Q ≡ flat_map (pair_rule n x) Q ++ joint_rules n rest Q
  unfolding joint_rules flat_map
  rows_next e = rw e refl

  pub rows_none : {R : List Rule} → R ≡ [] → joint_rules n R Q ≡ []
  unfolding joint_rules flat_map
  rows_none e = rw e refl
