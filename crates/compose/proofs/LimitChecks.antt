-- Refusal 21: the checks of a joint sheet's limits, by the first that its rules exceed, and of its words.
use mathlib.Core.Path.{◌≡◌, refl, sym, ap, ap₂, ◌∙◌, subst}
use mathlib.Core.Bool.{Bool, true, false, cond}
use mathlib.Core.List.{List, flat_map}
use Prim.Native.Nat.{ℕ, ◌+◌, ◌*◌, ◌^◌, ◌≤◌, ◌<◌}
use native.Mathlib.Omega.{arith}
use lib.Dec.{leb}
use lib.ListN.{length}
use borrow.Author.Tests as tests
use Rattle.std.specs.Prelude.{Option, Some, None, Result, Ok, Err}
use Rattle.std.proofs.lemmas.Result.{MatchResult-at_ok, MatchResult-at_err}
use Rattle.model.specs.Lists.{every}
use Rattle.model.specs.Answers.{count, refusal, Checked, refuses, require, ◌>>◌}
use Rattle.model.specs.Sheet.{Rule, Sheet, set_words, rule_words, sheet_words}
use Rattle.model.specs.Compose.{Sizes, of_pairs, positions_of, arcs_of, steps_of, joint_rules, joint, within_limits}
use Rattle.model.specs.Index.{sheet_in, rules_in}
use Rattle.model.proofs.Tests.{Yes}
use Rattle.model.proofs.ListLaws.{every-∈}
use Rattle.model.proofs.PassedLaws.{in_range}
use Rattle.page.specs.Page.{Fills}
use Rattle.limits.specs.declared.Limit.{Limit}
use Rattle.limits.specs.declared.Limit.TheVariants as limits
use Rattle.limits.specs.Limits.{place, first_of}
use Rattle.join_pairs.specs.Pairs.{FewPairs}
use Rattle.join_pairs.specs.Sides.{sizes_of}
use Rattle.join_pairs.proofs.NumberLaws.{mul_le}
use Rattle.indexed.specs.declared.IndexedSheet.{IndexedSheet}
use Rattle.join_alike.specs.declared.Sheets.{Sheets}
use Rattle.join_alike.specs.Joins.{sizes_in}
use Rattle.join_alike.specs.Alike.{sheets_joint, FewPositions}
use Rattle.join_limits.specs.declared.Tally.{Tally}
use Rattle.join_limits.specs.Limits.{first_in, first_limit, Within, LimitOf}
use Rattle.join_sheets.specs.Sheets.{joint_in, joint_of, WithinLimits}
use Rattle.compose.specs.Joins.{lent, limited, Limits}
use Rattle.compose.proofs.AnswerLaws.{gives_refusal, gives-short, gives-words}

-- ---- the limits of rules

abbrev first_of_all : (rules positions arcs steps : Bool) → Option Limit
first_of_all rules positions arcs steps = cond rules (first_of positions arcs steps) (Some limits.Rules)

abbrev checks : (rules positions arcs steps : Bool) → Checked (Unit {0}) → Checked (Unit {0})
checks rules positions arcs steps words =
    require rules 21 2 >> (require positions 21 3 >> (require arcs 21 4 >> (require steps 21 5 >> words)))

-- by the first that isn't kept; the words are left to check where all are
unfoldable by_first : Checked (Unit {0}) → Option Limit → Checked (Unit {0})
by_first e None = e
by_first e (Some l) = refuses 21 (place l)

told_first : (a b c d : Bool) (e : Checked (Unit {0})) → checks a b c d e ≡ by_first e (first_of_all a b c d)
unfolding require ◌>>◌ by_first
told_first false b c d e = refl
told_first true false c d e = refl
told_first true true false d e = refl
told_first true true true false e = refl
told_first true true true true e = refl

none_over : (a b c d : Bool) → first_of_all a b c d ≡ None → Yes a × Yes b
none_over false b c d h = let z : ◌≡◌ {A = ℕ} 0 1 = cc in absurd (omega arith)
none_over true false c d h = let z : ◌≡◌ {A = ℕ} 0 1 = cc in absurd (omega arith)
none_over true true c d h = (refl, refl)

abbrev all-at-most : (Rule → ℕ) → ℕ → List Rule → Bool
all-at-most f k rs = every (λ r. leb (f r) k) rs

module _ (j : Sheet) (few : j.states ≤ 64) where
  after-states : within_limits j ≡ by_first (require (leb (length (sheet_words j)) 16384) 21 6) (first_limit j.rules)
  unfolding within_limits require ◌>>◌ first_limit first_in
  after-states =
      rw (tests.le-leb j.states 64 few)
      (told_first (leb (length j.rules) 1024) (all-at-most positions_of 64 j.rules) (all-at-most arcs_of 1024 j.rules)
      (all-at-most steps_of 32 j.rules) (require (leb (length (sheet_words j)) 16384) 21 6))

  limits_over : {l : Limit} → first_limit j.rules ≡ Some l → within_limits j ≡ refuses 21 (place l)
  unfolding by_first
  limits_over {l} h = after-states ∙ ap (by_first (require (leb (length (sheet_words j)) 16384) 21 6)) h

  limits_within : first_limit j.rules ≡ None
      → (within_limits j ≡ require (leb (length (sheet_words j)) 16384) 21 6) × (length j.rules ≤ 1024) × FewPositions j.rules
  unfolding by_first first_limit first_in
  limits_within h =
      let (a, b) = none_over (leb (length j.rules) 1024) (all-at-most positions_of 64 j.rules) (all-at-most arcs_of 1024 j.rules)
      (all-at-most steps_of 32 j.rules) h in (
        after-states ∙ ap (by_first (require (leb (length (sheet_words j)) 16384) 21 6)) h,
        tests.leb-true (length j.rules) 1024 a,
        λ z m. tests.leb-true (positions_of z) 64 (every-∈ (λ r. leb (positions_of r) 64) b z m),
      )

-- ---- the limit of states

module _ (s t : IndexedSheet) {p q : ℕ} (ep : p ≡ (sheet_in s.words.now).states) (eq : q ≡ (sheet_in t.words.now).states) where
  product : p * q ≡ (joint_in s.words.now t.words.now).states
  unfolding joint
  product = ap₂ (◌*◌) ep eq

  pub product_fits : p * q ≤ 64 * 64
  product_fits =
      let small : p ≤ 64 = omega (arith, ep, (in_range s.indexed.sheet).few_states) in
      mul_le p q {x = 64} {y = 64} small (omega (arith, eq, (in_range t.indexed.sheet).few_states))

  pub states-over : 64 < p * q → (out : List ℕ) → Limits s.words.now t.words.now out (refusal 21 1) out
  unfolding within_limits require ◌>>◌
  states-over l out =
      gives_refusal out (rw (tests.lt-leb (joint_in s.words.now t.words.now).states 64 (omega (arith, product))) refl)

  pub few_joinable : p * q ≤ 64 → FewPairs (record { of_S = p; of_T = q })
  few_joinable l = record {
    some_S = rw ep (in_range s.indexed.sheet).some_states;
    some_T = rw eq (in_range t.indexed.sheet).some_states;
    few = l;
  }

  pub sized : ◌≡◌ {A = Sizes} (record { of_S = p; of_T = q }) (sizes_in s.words.now t.words.now)
  sized = λ i. record { of_S = ep i; of_T = eq i }

-- ---- the limits of rules, by their tally

module _ (b : Sheets) where
  abbrev u : List ℕ
  u = b.s.words.now

  abbrev v : List ℕ
  v = b.t.words.now

  few-joint : (joint_of b).states ≤ 64
  unfolding joint
  few-joint = subst (λ (n : Sizes). of_pairs n ≤ 64) b.sized b.sizes.few.few

  -- the rules of the joint sheet and their words, as the code has the numbers of states
  abbrev joint_by : Sizes → List Rule
  joint_by n = joint_rules n (rules_in u) (rules_in v)

  same_rules : sheets_joint b ≡ (joint_of b).rules
  unfolding joint
  same_rules = ap joint_by b.sized

  same_words : flat_map (rule_words (of_pairs (sizes_of b.sizes))) (sheets_joint b)
      ≡ flat_map (rule_words (joint_of b).states) (joint_of b).rules
  unfolding joint
  same_words = ap (λ (n : Sizes). flat_map (rule_words (of_pairs n)) (joint_by n)) b.sized

  limit-same : first_limit (joint_of b).rules ≡ first_limit (sheets_joint b)
  limit-same = ap first_limit (sym same_rules)

  pub rules-over : {l : Limit} → first_limit (sheets_joint b) ≡ Some l → (out : List ℕ) → Limits u v out (refusal 21 (place l)) out
  unfolding ◌>>◌
  rules-over h out = gives_refusal out (rw (limits_over (joint_of b) few-joint (limit-same ∙ h)) refl)

  module _ {t : Tally} (h : Within (of_pairs (sizes_of b.sizes)) (sheets_joint b) t) where
    abbrev words : List ℕ
    words = sheet_words (joint_of b)

    kept : (within_limits (joint_of b) ≡ require (leb (length words) 16384) 21 6) × (length (joint_of b).rules ≤ 1024)
        × FewPositions (joint_of b).rules
    kept = limits_within (joint_of b) few-joint (limit-same ∙ h.none)

    -- six words come before the rules
    long : 6 + t.words ≡ length words
    unfolding joint sheet_words set_words
    long = omega (arith, h.tally.words, ap length same_words)

    pub few_rules : (t.rules ≤ 1024) × (t.words ≤ 2 ^ 31)
    few_rules =
        let few : t.rules ≤ 1024 = omega (arith, h.tally.rules, kept.1, ap length same_rules) in
        (few, omega (arith, t.few))

    pub within_limits_of_rules : WithinLimits b t.rules
    within_limits_of_rules = record { few_positions = subst FewPositions (sym same_rules) kept.2; number = h.tally.rules }

    module _ (out : List ℕ) where
      pub words-over : 16384 < 6 + t.words → Limits u v out (refusal 21 6) out
      unfolding require ◌>>◌
      words-over m = gives_refusal out (rw (kept.0, tests.lt-leb (length words) 16384 (omega (arith, long))) refl)

      module _ (m : 6 + t.words ≤ 16384) where
        fits : limited (joint_of b) (length out) ≡ lent words (length out)
        unfolding require ◌>>◌
        fits = rw (kept.0, tests.le-leb (length words) 16384 (omega (arith, long))) refl

        pub words-short : length out < 6 + t.words → Limits u v out (refusal 22 (6 + t.words)) out
        words-short s = subst (λ (n : ℕ). Limits u v out (refusal 22 n) out) (sym long) (gives-short out words fits (rw (← long) s))

        pub words_fit : {y : List ℕ} {n : ℕ} → 6 + t.words ≤ length out → Fills out words y n → Limits u v out (count n) y
        words_fit s w = gives-words out words fits (omega (arith, long)) (omega (arith, long)) w

-- ---- what the code's tally is, by its result

pub within-here : {p : ℕ} {rs : List Rule} {r : Result Tally Limit} {t : Tally} → LimitOf p rs r → r ≡ Ok t → Within p rs t
within-here {p} {rs} {t = t} h e = MatchResult-at_ok (Within p rs) (λ l. first_limit rs ≡ Some l) t e h

pub over-here : (p : ℕ) (rs : List Rule) {r : Result Tally Limit} {l : Limit} → LimitOf p rs r → r ≡ Err l → first_limit rs ≡ Some l
over-here p rs {l = l} h e = MatchResult-at_err (Within p rs) (λ k. first_limit rs ≡ Some k) l e h
