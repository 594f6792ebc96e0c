-- The words of the joint rules of texts and of tags, and of the rows of joint rules.
use mathlib.Core.Path.{◌≡◌, sym, ap, subst, ◌∙◌}
use mathlib.Core.List.Memᴰ
use mathlib.Core.List.{List, [], ◌∷◌, ◌++◌, flat_map}
use Prim.Native.Nat.{ℕ, ◌+◌, ◌<◌}
use native.Mathlib.Omega.{arith}
use lib.ListN.{length, get_or}
use Rattle.model.specs.Sheet.{Rule, rule_words}
use Rattle.model.specs.Spans.{RuleAt}
use Rattle.model.specs.Index.{sheet_in}
use Rattle.model.specs.Lists.{◌∈◌}
use Rattle.model.specs.Compose as model
use Rattle.model.specs.Compose.{pair, of_pairs}
use Rattle.model.proofs.ListLaws.{each_append}
use Rattle.model.proofs.PartLaws.{word-within, word-is}
use Rattle.model.proofs.RuleWords.{as_text, as_tag, text_key, tag_key}
use Rattle.page.specs.Page.{Writes}
use Rattle.page.specs.declared.Page.{Page}
use Rattle.page.proofs.PageLaws.{as_words, Left, more}
use Rattle.indexed.proofs.SpotLaws.{stands}
use Rattle.join_pairs.specs.declared.Sizes.{Sizes}
use Rattle.join_pairs.specs.Sides.{sizes_of}
use Rattle.join_pairs.proofs.NumberLaws.{few-S, few-T}
use Rattle.join_alike.specs.declared.RulePair.{RulePair}
use Rattle.join_alike.specs.declared.Row.{Row}
use Rattle.join_alike.specs.declared.Pairs.{Pairs}
use Rattle.join_alike.specs.declared.Rows.{Rows}
use Rattle.join_alike.specs.Alike.{pair_joint, row_joint, joint_left, PairNext, rows_left, RowNext, FewPositions}
use Rattle.join_alike.proofs.AlikeLaws.{JointOf, texts, tags, contents, alike_paired}
use Rattle.join_contents.specs.Parts.{pair_words}
use Rattle.join_contents.proofs.ContentLaws.{one_rule}
use Rattle.join_rules.specs.Written.{word_of, state_in, StatesAt, row_words, words_left, rows_words_left}

-- ---- texts and tags

-- word k of two rules is a state of each
abbrev TwoStates : (p q a b : ℕ) (s t : List ℕ) (k : ℕ) → Type 0
TwoStates p q a b s t k =
    ((a + k < length s) × (get_or s (a + k) 0 < p)) × ((b + k < length t) × (get_or t (b + k) 0 < q))

state-here : {p a : ℕ} {s : List ℕ} {x : Rule} (h : RuleAt p s a x) (k : ℕ) → k < length (rule_words p x) → get_or (rule_words p x) k 0 < p
    → (a + k < length s) × (get_or s (a + k) 0 < p)
state-here h k l m = (word-within h.there k l, rw (word-is h.there k l) m)

module _ {n : model.Sizes} {p q a b : ℕ} {s t : List ℕ} where
  text_rule : {x y z : Rule} → JointOf n x y z → RuleAt p s a x → RuleAt q t b y → get_or s a 0 ≡ 33
      → (33 ∷ get_or s (a + 1) 0 ∷ pair n.of_T (get_or s (a + 2) 0) (get_or t (b + 2) 0) ∷ [] ≡ rule_words (of_pairs n) z)
      × TwoStates p q a b s t 2
  unfolding rule_words
  text_rule (texts k s t) h i e = (
    rw ((text_key h).1, word-is h.there 2 (omega arith), word-is i.there 2 (omega arith)),
    (state-here h 2 (omega arith) h.ranges.2, state-here i 2 (omega arith) i.ranges.2),
  )
  text_rule (tags g c d s t) h i e = absurd (omega (arith, (tag_key h).0))
  text_rule (contents o u φ ψ s t) h i e = let (k, q, j) = as_text _ h e in let z : ◌≡◌ {A = ℕ} 0 1 = cc j in absurd (omega arith)

  tag_rule : {x y z : Rule} → JointOf n x y z → RuleAt p s a x → RuleAt q t b y → get_or s a 0 ≡ 38
      → (38 ∷ get_or s (a + 1) 0 ∷ pair n.of_T (get_or s (a + 2) 0) (get_or t (b + 2) 0)
      ∷ pair n.of_T (get_or s (a + 3) 0) (get_or t (b + 3) 0) ∷ [] ≡ rule_words (of_pairs n) z)
      × TwoStates p q a b s t 2 × TwoStates p q a b s t 3
  unfolding rule_words
  tag_rule (texts k s t) h i e = absurd (omega (arith, (text_key h).0))
  tag_rule (tags g c d s t) h i e = (
    rw (
      (tag_key h).1,
      word-is h.there 2 (omega arith),
      word-is i.there 2 (omega arith),
      word-is h.there 3 (omega arith),
      word-is i.there 3 (omega arith),
    ),
    (state-here h 2 (omega arith) h.ranges.2, state-here i 2 (omega arith) i.ranges.2),
    (state-here h 3 (omega arith) h.ranges.3, state-here i 3 (omega arith) i.ranges.3),
  )
  tag_rule (contents o u φ ψ s t) h i e = let (g, c, q, j) = as_tag _ h e in let z : ◌≡◌ {A = ℕ} 0 1 = cc j in absurd (omega arith)

module _ (r : RulePair) where
  -- the joint states are small
  small : (k : ℕ) → TwoStates (sheet_in r.s.sheet.words.now).states (sheet_in r.t.sheet.words.now).states r.s.at r.t.at
      r.s.sheet.words.now r.t.sheet.words.now k
      → StatesAt r k
  small k ((room_S, s), (room_T, t)) =
      let p = ap (λ (n : model.Sizes). n.of_S) r.sized in
      let q = ap (λ (n : model.Sizes). n.of_T) r.sized in
      let few = few-T r.sizes.few in
      record { few = few; first = (room_S, omega (arith, p, few-S r.sizes.few)); second = (room_T, omega (arith, q, few)) }

  module _ (e : get_or r.s.sheet.words.now r.s.at 0 ≡ 33) where
    pub text_states : StatesAt r 2
    text_states = small 2 (text_rule (alike_paired r).1 (stands r.s).begins (stands r.t).begins e).1

    pub text_words : {k q : ℕ} → k ≡ word_of r.s 1 → q ≡ state_in r 2 → 33 ∷ k ∷ q ∷ [] ≡ pair_words r
    text_words ek eq =
        let (z, w) = alike_paired r in
        rw (ek, eq) (text_rule w (stands r.s).begins (stands r.t).begins e).0 ∙ one_rule w

  module _ (e : get_or r.s.sheet.words.now r.s.at 0 ≡ 38) where
    pub tag_states : StatesAt r 2 × StatesAt r 3
    tag_states =
        let (_, inner, target) = tag_rule (alike_paired r).1 (stands r.s).begins (stands r.t).begins e in
        (small 2 inner, small 3 target)

    pub tag_words : {g j q : ℕ} → g ≡ word_of r.s 1 → j ≡ state_in r 2 → q ≡ state_in r 3 → 38 ∷ g ∷ j ∷ q ∷ [] ≡ pair_words r
    tag_words eg ej eq =
        let (z, w) = alike_paired r in
        rw (eg, ej, eq) (tag_rule w (stands r.s).begins (stands r.t).begins e).0 ∙ one_rule w

-- ---- few positions, in two parts of a list

in-first : {z : Rule} (l m : List Rule) → z ∈ l → z ∈ (l ++ m)
in-first l m (Memᴰ.head e) = Memᴰ.head e
in-first (x ∷ l) m (Memᴰ.tail k) = Memᴰ.tail (in-first l m k)

in-second : {z : Rule} (l m : List Rule) → z ∈ m → z ∈ (l ++ m)
in-second [] m k = k
in-second (x ∷ l) m k = Memᴰ.tail (in-second l m k)

pub few_parts : {all : List Rule} (l m : List Rule) → all ≡ l ++ m → FewPositions all → FewPositions l × FewPositions m
few_parts l m e few = (
  λ z k. few z (subst (λ (rs : List Rule). z ∈ rs) (sym e) (in-first l m k)),
  λ z k. few z (subst (λ (rs : List Rule). z ∈ rs) (sym e) (in-second l m k)),
)

-- ---- rows

-- the words of the first of the rules that are left
rules_written : (p : ℕ) {rs : List Rule} (l m : List Rule) → rs ≡ l ++ m → {all : List ℕ} {p₀ g g' : Page}
    → Left p₀ all g (flat_map (rule_words p) rs) → Writes g (flat_map (rule_words p) l) g' → Left p₀ all g' (flat_map (rule_words p) m)
rules_written p l m e left w = more left (ap (flat_map (rule_words p)) e ∙ each_append (rule_words p) l m) w

pub words_none : (p : ℕ) {rs : List Rule} → rs ≡ [] → flat_map (rule_words p) rs ≡ []
unfolding flat_map
words_none p e = ap (flat_map (rule_words p)) e

module _ {all : List ℕ} {p₀ g g' : Page} where
  -- the next pair of a row
  pub pair_written : {p q : Pairs} {x : RulePair} → PairNext p x q → Left p₀ all g (words_left p) → Writes g (pair_words x) g'
      → Left p₀ all g' (words_left q)
  pair_written {p} {q} {x} h left w =
      let one = as_words (ap (λ (n : Sizes). flat_map (rule_words (of_pairs (sizes_of n))) (pair_joint x)) h.sizes) w in
      subst (λ (n : Sizes). Left p₀ all g' (flat_map (rule_words (of_pairs (sizes_of n))) (joint_left q))) (sym h.same_sizes)
      (rules_written (of_pairs (sizes_of p.sizes)) (pair_joint x) (joint_left q) h.joint left one)

  -- the next row
  pub row_written : {p q : Rows} {r : Row} → RowNext p r q → Left p₀ all g (rows_words_left p) → Writes g (row_words r) g'
      → Left p₀ all g' (rows_words_left q)
  row_written {p} {q} {r} h left w =
      let one = as_words (ap (λ (n : Sizes). flat_map (rule_words (of_pairs (sizes_of n))) (row_joint r)) h.sizes) w in
      subst (λ (n : Sizes). Left p₀ all g' (flat_map (rule_words (of_pairs (sizes_of n))) (rows_left q))) (sym h.same_sizes)
      (rules_written (of_pairs (sizes_of p.sizes)) (row_joint r) (rows_left q) h.joint left one)
