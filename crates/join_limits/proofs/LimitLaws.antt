-- Tallies of joint rules: of a list in two parts, of a loop, and what they say of the limits.
use mathlib.Core.Path.{◌≡◌, refl, sym, ap, subst, ◌∙◌}
use mathlib.Core.Bool.{Bool, ◌&&◌, and_assoc}
use mathlib.Core.List.{List, [], ◌∷◌, ◌++◌, flat_map}
use Prim.Native.Nat.{ℕ, ◌+◌, ◌≤◌, ◌<◌}
use native.Mathlib.Omega.{arith}
use lib.Dec.{leb}
use lib.ListN.{length, length-append}
use borrow.Author.Tests as tests
use Rattle.std.specs.Prelude.{Some, None}
use Rattle.model.specs.Lists.{every}
use Rattle.model.specs.Sheet.{Rule, rule_words}
use Rattle.model.specs.Compose.{of_pairs, positions_of, arcs_of, steps_of, pair_rule}
use Rattle.model.specs.Index.{rules_in}
use Rattle.model.proofs.ListLaws.{length-each, each_append}
use Rattle.model.proofs.JoinRange.{pair-rule-count}
use Rattle.model.proofs.PassedLaws.{in_range}
use Rattle.limits.specs.declared.Limit.TheVariants as limits
use Rattle.limits.specs.Limits.{earlier}
use Rattle.limits.proofs.LimitLaws.{earlier_none, earlier_assoc, first_both}
use Rattle.indexed.specs.Rules.{rule_of}
use Rattle.join_pairs.specs.declared.Sizes.{Sizes}
use Rattle.join_pairs.specs.Sides.{sizes_of}
use Rattle.join_alike.specs.declared.RulePair.{RulePair}
use Rattle.join_alike.specs.declared.Row.{Row}
use Rattle.join_alike.specs.declared.Rows.{Rows}
use Rattle.join_alike.specs.declared.Pairs.{Pairs}
use Rattle.join_alike.specs.declared.Sheets.{Sheets}
use Rattle.join_alike.specs.Alike.{pair_joint, row_joint, joint_left, PairNext, sheets_joint, rows_left, RowNext}
use Rattle.join_limits.specs.declared.Tally.{Tally}
use Rattle.join_limits.specs.Limits.{first_in, first_limit, TallyOf}

-- ---- the first limit of a list in two parts

every_parts : {A : Type 0} (f : A → Bool) (l m : List A) → every f (l ++ m) ≡ every f l && every f m
unfolding every
every_parts f [] m = refl
every_parts f (x ∷ l) m = rw (every_parts f l m) (sym (and_assoc (f x) (every f l) (every f m)))

abbrev at_most : (Rule → ℕ) → ℕ → Rule → Bool
at_most f k r = leb (f r) k

first-append : (l m : List Rule) → first_in (l ++ m) ≡ earlier (first_in l) (first_in m)
unfolding first_in
first-append l m =
    let a = at_most positions_of 64 in
    let b = at_most arcs_of 1024 in
    let c = at_most steps_of 32 in
    rw (every_parts a l m, every_parts b l m, every_parts c l m)
    (first_both (every a l) (every a m) (every b l) (every b m) (every c l) (every c m))

first_none : first_in [] ≡ None
unfolding first_in every
first_none = refl

-- ---- a loop: what is tallied and what is left make the whole

pub record TallyLeft (p : ℕ) (rs : List Rule) (t : Tally) (rest : List Rule) : Type 0 where
  pub rules : t.rules + length rest ≡ length rs
  pub over : earlier t.over (first_in rest) ≡ first_in rs
  pub words : t.words + length (flat_map (rule_words p) rest) ≡ length (flat_map (rule_words p) rs)

pub tally_begun : (p : ℕ) {rs rest : List Rule} {t : Tally} → rs ≡ rest → t.rules ≡ 0 → t.over ≡ None → t.words ≡ 0
    → TallyLeft p rs t rest
tally_begun p {rs = rs} e er eo ew =
    rw (← e) (record { rules = omega arith; over = rw eo refl; words = omega arith })

module _ {p : ℕ} {rs : List Rule} {t : Tally} {rest : List Rule} (h : TallyLeft p rs t rest) where
  pub tally_more : {u v : List Rule} {s r : Tally} → rest ≡ u ++ v → TallyOf p u s → r.rules ≡ t.rules + s.rules
      → r.over ≡ earlier t.over s.over → r.words ≡ t.words + s.words → TallyLeft p rs r v
  tally_more {u} {v} {s} {r} e k er eo ew = record {
    rules = omega (arith, h.rules, ap length e, length-append u v, k.rules);
    over =
        rw (eo, k.over)
        (earlier_assoc t.over (first_in u) (first_in v) ∙ ap (earlier t.over) (sym (first-append u v) ∙ ap first_in (sym e)) ∙ h.over);
    words =
        let both = ap length (ap (flat_map (rule_words p)) e ∙ each_append (rule_words p) u v) in
        omega (arith, h.words, both, length-append (flat_map (rule_words p) u) (flat_map (rule_words p) v), k.words);
  }

  pub tally_done : rest ≡ [] → TallyOf p rs t
  unfolding flat_map
  tally_done e = record {
    rules = omega (arith, h.rules, ap length e);
    over = sym (earlier_none t.over) ∙ ap (earlier t.over) (sym (ap first_in e ∙ first_none)) ∙ h.over;
    words = omega (arith, h.words, ap (λ (l : List Rule). length (flat_map (rule_words p) l)) e);
  }

-- ---- a row has at most one joint rule for each rule of T

pair-few : (x : RulePair) → length (pair_joint x) ≤ 1
pair-few x = pair-rule-count (sizes_of x.sizes) (rule_of x.s) (rule_of x.t)

pub row-few : (r : Row) → length (row_joint r) ≤ 1024
row-few r =
    let f = pair_rule (sizes_of r.sizes) (rule_of r.rule) in
    omega (
      arith,
      length-each f 1 (pair-rule-count (sizes_of r.sizes) (rule_of r.rule)) (rules_in r.others.words.now),
      (in_range r.others.indexed.sheet).few_rules,
    )

-- ---- along a row, and along the rows of two sheets

-- the next pair of a row
module _ (r : Row) {p q : Pairs} {x : RulePair} (same : p.sizes ≡ r.sizes) (h : PairNext p x q) {t s : Tally}
    (left : TallyLeft (of_pairs (sizes_of r.sizes)) (row_joint r) t (joint_left p))
    (one : TallyOf (of_pairs (sizes_of x.sizes)) (pair_joint x) s) where
  pub pair-room : t.rules + s.rules ≤ 2048
  pair-room = omega (arith, left.rules, row-few r, one.rules, pair-few x)

  pub pair_more : {u : Tally} → u.rules ≡ t.rules + s.rules → u.over ≡ earlier t.over s.over → u.words ≡ t.words + s.words
      → TallyLeft (of_pairs (sizes_of r.sizes)) (row_joint r) u (joint_left q)
  pair_more er eo ew =
      tally_more left h.joint (subst (λ (n : Sizes). TallyOf (of_pairs (sizes_of n)) (pair_joint x) s) (h.sizes ∙ same) one) er eo ew

-- the next row of two sheets
module _ (b : Sheets) {p q : Rows} {r : Row} (same : p.sizes ≡ b.sizes) (h : RowNext p r q) {t s : Tally}
    (left : TallyLeft (of_pairs (sizes_of b.sizes)) (sheets_joint b) t (rows_left p))
    (one : TallyOf (of_pairs (sizes_of r.sizes)) (row_joint r) s) where
  pub row_more : {u : Tally} → u.rules ≡ t.rules + s.rules → u.over ≡ earlier t.over s.over → u.words ≡ t.words + s.words
      → TallyLeft (of_pairs (sizes_of b.sizes)) (sheets_joint b) u (rows_left q)
  row_more er eo ew =
      tally_more left h.joint (subst (λ (n : Sizes). TallyOf (of_pairs (sizes_of n)) (row_joint r) s) (h.sizes ∙ same) one) er eo ew

-- ---- the first of all limits

pub limit_many : (rs : List Rule) → 1024 < length rs → first_limit rs ≡ Some limits.Rules
unfolding first_limit
limit_many rs l = rw (tests.lt-leb (length rs) 1024 l)

pub limit_few : (rs : List Rule) → length rs ≤ 1024 → first_limit rs ≡ first_in rs
unfolding first_limit
limit_few rs l = rw (tests.le-leb (length rs) 1024 l)
