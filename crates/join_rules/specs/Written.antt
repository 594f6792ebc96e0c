-- The words of the joint rules of two sheets.
use mathlib.Core.List.{List, flat_map}
use Rattle.std.specs.Prelude.{ℕ, ◌+◌, ◌≤◌, ◌<◌, length, get_or}
use Rattle.model.specs.Sheet.{rule_words}
use Rattle.model.specs.Compose.{pair, of_pairs}
use Rattle.indexed.specs.declared.Spot.{Spot}
use Rattle.join_pairs.specs.Sides.{sizes_of}
use Rattle.join_alike.specs.declared.RulePair.{RulePair}
use Rattle.join_alike.specs.declared.Row.{Row}
use Rattle.join_alike.specs.declared.Pairs.{Pairs}
use Rattle.join_alike.specs.declared.Rows.{Rows}
use Rattle.join_alike.specs.declared.Sheets.{Sheets}
use Rattle.join_alike.specs.Alike.{row_joint, joint_left, sheets_joint, rows_left}

-- word k of a spot's rule
abbrev pub word_of : Spot → ℕ → ℕ
word_of x k = get_or x.sheet.words.now (x.at + k) 0

-- the pair of the states that are word k of two rules, each a number of one byte among the words of its sheet
abbrev pub state_in : RulePair → ℕ → ℕ
state_in r k = pair r.sizes.t (word_of r.s k) (word_of r.t k)

pub record StatesAt (r : RulePair) (k : ℕ) : Type 0 where
  pub few : r.sizes.t ≤ 64
  pub first : (r.s.at + k < length r.s.sheet.words.now) × (word_of r.s k ≤ 255)
  pub second : (r.t.at + k < length r.t.sheet.words.now) × (word_of r.t k ≤ 255)

-- the words of all joint rules of a row, and of those of its pairs that are left
abbrev pub row_words : Row → List ℕ
row_words r = flat_map (rule_words (of_pairs (sizes_of r.sizes))) (row_joint r)

abbrev pub words_left : Pairs → List ℕ
words_left p = flat_map (rule_words (of_pairs (sizes_of p.sizes))) (joint_left p)

-- those of all joint rules of two sheets, and of their rows that are left
abbrev pub joint_words : Sheets → List ℕ
joint_words b = flat_map (rule_words (of_pairs (sizes_of b.sizes))) (sheets_joint b)

abbrev pub rows_words_left : Rows → List ℕ
rows_words_left p = flat_map (rule_words (of_pairs (sizes_of p.sizes))) (rows_left p)
