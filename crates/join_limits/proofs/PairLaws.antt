-- The tally of the joint rule of two rules, by their extents.
use mathlib.Core.Path.{◌≡◌, refl, sym, ap₂, ◌∙◌}
use mathlib.Core.Bool.{and-true}
use mathlib.Core.List.{[], ◌∷◌, flat_map}
use mathlib.Core.Option.{none, some}
use Prim.Native.Nat.{ℕ, ◌<◌}
use native.Mathlib.Omega.{arith}
use lib.Dec.{leb}
use lib.ListN.{length, length-append}
use Rattle.std.specs.Prelude.{None}
use Rattle.model.specs.Lists.{every}
use Rattle.model.specs.Sheet.{Rule, one, two, three, rule_words}
use Rattle.model.specs.Compose as model
use Rattle.model.specs.Compose.{S, T, of_pairs, positions_of, arcs_of, steps_of}
use Rattle.limits.specs.Limits.{first_of}
use Rattle.join_alike.specs.declared.RulePair.{RulePair}
use Rattle.indexed.specs.Rules.{rule_of}
use Rattle.join_pairs.specs.Sides.{sizes_of}
use Rattle.join_alike.specs.Alike.{pair_joint}
use Rattle.join_alike.proofs.AlikeLaws.{JointOf, texts, tags, contents, alike_paired, paired_rule}
use Rattle.join_extents.specs.declared.Extent.{Extent}
use Rattle.join_extents.specs.Extents.{extent_of, extent_in, joint_extent, fixed_words, words_of, positions_in, arcs_in, steps_in}
use Rattle.join_extents.proofs.ExtentLaws.{joint_sized}
use Rattle.join_limits.specs.declared.Tally.{Tally}
use Rattle.join_limits.specs.Limits.{first_in, TallyOf}

by_extent : (p : ℕ) (z : Rule) → let e = extent_in p z in
    (positions_of z ≡ positions_in e.order) × (arcs_of z ≡ arcs_in e.order) × (steps_of z ≡ steps_in e.count)
unfolding positions_of arcs_of steps_of
by_extent p (one k q) = (refl, refl, refl)
by_extent p (two g c q) = (refl, refl, refl)
by_extent p (three none none q) = (refl, refl, refl)
by_extent p (three none (some ss) q) = (refl, refl, refl)
by_extent p (three (some o) none q) = (refl, refl, refl)
by_extent p (three (some o) (some ss) q) = (refl, refl, refl)

one_first : (p : ℕ) (z : Rule) → let e = extent_in p z in
    first_of (leb (positions_in e.order) 64) (leb (arcs_in e.order) 1024) (leb (steps_in e.count) 32) ≡ first_in (z ∷ [])
unfolding first_in every
one_first p z = let (m, n, r) = by_extent p z in rw (m, n, r) (simp and-true)

-- the words of one rule
one_long : (p : ℕ) (z : Rule) → length (flat_map (rule_words p) (z ∷ [])) ≡ length (rule_words p z)
unfolding flat_map
one_long p z = omega (arith, length-append (rule_words p z) [])

-- rules of texts and of tags have no parts
plain_pair : (p : ℕ) {n : model.Sizes} {x y z : Rule} → JointOf n x y z → 2 < fixed_words x
    → (first_in (z ∷ []) ≡ None) × (length (rule_words p z) ≡ fixed_words x)
unfolding first_in every positions_of arcs_of steps_of rule_words
plain_pair p (texts k s t) l = (refl, refl)
plain_pair p (tags g c d s t) l = (refl, refl)
plain_pair p (contents o u φ ψ s t) l = absurd (omega arith)

-- the joint rule of two rules of texts or of tags; f of the first rule's words are in none of its parts
pub plain_tallied : (r : RulePair) {f : ℕ} {t : Tally} → f ≡ fixed_words (rule_of r.s) → 2 < f → t.rules ≡ 1 → t.over ≡ None
    → t.words ≡ f → TallyOf (of_pairs (sizes_of r.sizes)) (pair_joint r) t
plain_tallied r ef l er eo ew =
    let (z, w) = alike_paired r in
    let p = of_pairs (sizes_of r.sizes) in
    let (within, long) = plain_pair p w (omega arith) in
    rw (paired_rule w) (record { rules = er; over = eo ∙ sym within; words = ew ∙ ef ∙ sym long ∙ sym (one_long p z) })

-- the extent e of the joint rule of two, as the code finds it, and f of the first rule's words in none of its parts
pub pair_tallied : (r : RulePair) {e x y : Extent} {f : ℕ} {t : Tally} → e ≡ joint_extent (sizes_of r.sizes) x y
    → x ≡ extent_of S (sizes_of r.sizes) (rule_of r.s) → y ≡ extent_of T (sizes_of r.sizes) (rule_of r.t) → f ≡ fixed_words (rule_of r.s)
    → t.rules ≡ 1 → t.over ≡ first_of (leb (positions_in e.order) 64) (leb (arcs_in e.order) 1024) (leb (steps_in e.count) 32)
    → t.words ≡ words_of f e → TallyOf (of_pairs (sizes_of r.sizes)) (pair_joint r) t
pair_tallied r {e} ee ex ey ef er eo ew =
    let (z, w) = alike_paired r in
    let p = of_pairs (sizes_of r.sizes) in
    let (joint, long) = joint_sized (sizes_of r.sizes) w in
    let is : e ≡ extent_in p z = ee ∙ ap₂ (joint_extent (sizes_of r.sizes)) ex ey ∙ sym joint in
    rw (paired_rule w) (record {
      rules = er;
      over = eo ∙ rw is (one_first p z);
      words = ew ∙ ap₂ words_of ef is ∙ sym long ∙ sym (one_long p z);
    })
