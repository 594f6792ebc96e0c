-- The joint sheet of two sheets that pass, and its words.
use Rattle.std.specs.Prelude.{◌≡◌, List, [], ◌∷◌, ℕ, ◌/◌, ◌%◌, length}
use Rattle.model.specs.Lists.{has}
use Rattle.model.specs.Sheet.{Sheet, W, mask}
use Rattle.model.specs.Compose.{joint}
use Rattle.model.specs.Index.{sheet_in}
use Rattle.join_alike.specs.declared.Sheets.{Sheets}
use Rattle.join_alike.specs.Alike.{sheets_joint, FewPositions}

-- the joint sheet of the words u and v
abbrev pub joint_in : List ℕ → List ℕ → Sheet
joint_in u v = joint (sheet_in u) (sheet_in v)

abbrev pub joint_of : Sheets → Sheet
joint_of b = joint_in b.s.words.now b.t.words.now

-- there are n joint rules, with few enough positions
pub record WithinLimits (b : Sheets) (n : ℕ) : Type 0 where
  pub few_positions : FewPositions (sheets_joint b)
  pub number : n ≡ length (sheets_joint b)

-- ---- the words before the joint rules, if there are n of them

-- the joint final states, as the number of their set
abbrev pub final_of : Sheets → ℕ
final_of b = mask (joint_of b).states (has (joint_of b).final)

unfoldable pub head_words : Sheets → ℕ → List ℕ
head_words b n = 1 ∷ (joint_of b).states ∷ final_of b % W ∷ final_of b / W ∷ (joint_of b).tags ∷ n ∷ []
