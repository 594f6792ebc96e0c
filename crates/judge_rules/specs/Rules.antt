-- The rules of a sheet: how many there are, and what one of them gives.
use Rattle.std.specs.Prelude.{◌≡◌, Bool, true, false, cond, ◌&&◌, ◌||◌, List, [], ◌∷◌, ℕ, ◌+◌, ◌≤◌, eqb, length, get_or}
use Rattle.std.proofs.Math.Option.{none, some}
use Rattle.model.specs.Lists.{only}
use Rattle.model.specs.Sheet.{Rule, one, two, three, bit, mask}
use Rattle.model.specs.Run.{of_kind}
use Rattle.judge_rules.specs.declared.numbers.Rules.{Rules}

-- ---- numbers of rules

-- has a rule a count part
unfoldable pub with_count : Rule → Bool
with_count (one k q) = false
with_count (two a c q) = false
with_count (three o none q) = false
with_count (three o (some ss) q) = true

unfoldable pub of_count : List Rule → ℕ
of_count [] = 0
of_count (r ∷ R) = cond (with_count r) 1 0 + of_count R

-- the numbers of these rules, by kind
pub record RulesOf (R : List Rule) (r : Rules) : Type 0 where
  pub texts : r.ones ≡ of_kind 1 R
  pub tags : r.twos ≡ of_kind 2 R
  pub counts : r.counted ≡ of_count R
  pub few : (r.ones ≤ length R) × (r.twos ≤ length R) × (length R ≤ 1024)

-- ---- rules of kind two

-- the set with the target of the rule that begins at word `at`, if its inner state is one of `inner`
abbrev pub with_target : (s : List ℕ) (at inner targets : ℕ) → ℕ
with_target s at inner targets = mask 64 (λ j. bit targets j || (bit inner (get_or s (at + 2) 0) && eqb j (get_or s (at + 3) 0)))

-- what a rule gives for a tag whose content reaches the states of the set `inner`
unfoldable pub at_tag_with : (tag inner : ℕ) → Rule → List ℕ
at_tag_with a inner (one j q) = []
at_tag_with a inner (two b c q) = only (eqb b a && bit inner c) q
at_tag_with a inner (three o c q) = []
