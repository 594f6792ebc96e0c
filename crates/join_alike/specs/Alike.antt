-- Rules of the two sheets of a join, as the code has them.
use Rattle.std.specs.Prelude.{◌≡◌, ◌≤◌, Option}
use Rattle.std.specs.Option.{MatchOption}
use mathlib.Core.List.{List, [], ◌++◌, flat_map}
use Rattle.model.specs.Lists.{◌∈◌}
use Rattle.model.specs.Sheet.{Rule}
use Rattle.model.specs.Compose.{pair_rule, joint_rules, positions_of}
use Rattle.model.specs.Index.{rules_in}
use Rattle.indexed.specs.Rules.{rule_of}
use Rattle.indexed.specs.Walks.{all_left, chain_left}
use Rattle.join_pairs.specs.Sides.{sizes_of}
use Rattle.join_alike.specs.declared.RulePair.{RulePair}
use Rattle.join_alike.specs.declared.Row.{Row}
use Rattle.join_alike.specs.declared.Pairs.{Pairs}
use Rattle.join_alike.specs.declared.Rows.{Rows}
use Rattle.join_alike.specs.declared.Sheets.{Sheets}

-- ---- two rules

-- their joint rule, the only one
abbrev pub pair_joint : RulePair → List Rule
pair_joint r = pair_rule (sizes_of r.sizes) (rule_of r.s) (rule_of r.t)

-- ---- a rule of S and the rules of T

abbrev pub row_joint : Row → List Rule
row_joint r = flat_map (pair_rule (sizes_of r.sizes) (rule_of r.rule)) (rules_in r.others.words.now)

-- the joint rules of the pairs that are left
abbrev pub joint_left : Pairs → List Rule
joint_left p = flat_map (pair_rule (sizes_of p.sizes) (rule_of p.rule)) (chain_left p.others)

-- the next pair, if there is one: its joint rule, and those of the pairs after it; its rule of T is one of the same sheet
pub record PairNext (p : Pairs) (x : RulePair) (q : Pairs) : Type 0 where
  pub joint : joint_left p ≡ pair_joint x ++ joint_left q
  pub rule : x.s ≡ p.rule
  pub of_T : x.t.sheet ≡ p.others.sheet
  pub sizes : x.sizes ≡ p.sizes
  pub same_rule : q.rule ≡ p.rule
  pub same_T : q.others.sheet ≡ p.others.sheet
  pub same_sizes : q.sizes ≡ p.sizes

abbrev pub NextPair : Pairs → Option RulePair → Pairs → Type 0
NextPair p r q = MatchOption r (joint_left p ≡ []) (λ x. PairNext p x q)

-- ---- two sheets

abbrev pub sheets_joint : Sheets → List Rule
sheets_joint b = joint_rules (sizes_of b.sizes) (rules_in b.s.words.now) (rules_in b.t.words.now)

-- the joint rules of the rows that are left
abbrev pub rows_left : Rows → List Rule
rows_left p = joint_rules (sizes_of p.sizes) (all_left p.rules) (rules_in p.others.words.now)

-- the next row, if there is one: its joint rules, and those of the rows after it; both are of the same two sheets
pub record RowNext (p : Rows) (x : Row) (q : Rows) : Type 0 where
  pub joint : rows_left p ≡ row_joint x ++ rows_left q
  pub of_S : x.rule.sheet ≡ p.rules.sheet
  pub others : x.others ≡ p.others
  pub sizes : x.sizes ≡ p.sizes
  pub same_S : q.rules.sheet ≡ p.rules.sheet
  pub same_T : q.others ≡ p.others
  pub same_sizes : q.sizes ≡ p.sizes

abbrev pub NextRow : Rows → Option Row → Rows → Type 0
NextRow p r q = MatchOption r (rows_left p ≡ []) (λ x. RowNext p x q)

-- no joint rule has over 64 positions
abbrev pub FewPositions : List Rule → Type 0
FewPositions rs = (z : Rule) → z ∈ rs → positions_of z ≤ 64
