-- The checks of a joint sheet, and what a call gives by them.
use Rattle.std.specs.Prelude.{◌≡◌, List, ℕ, length}
use Rattle.model.specs.Answers.{Said, Checked, passes, ◌>>◌, room_for, answer_of, buffer_after}
use Rattle.model.specs.Sheet.{Sheet, sheet_words}
use Rattle.model.specs.Compose.{within_limits}
use Rattle.join_sheets.specs.Sheets.{joint_in}

-- words that need room; those of a sheet within all limits
abbrev pub lent : List ℕ → ℕ → Checked (List ℕ)
lent ws room = room_for (length ws) room >> passes ws

abbrev pub limited : Sheet → ℕ → Checked (List ℕ)
limited j room = within_limits j >> lent (sheet_words j) room

-- by the check c a call says x and leaves y in the buffer `out`
pub record Gives (out : List ℕ) (c : Checked (List ℕ)) (x : Said) (y : List ℕ) : Type 0 where
  pub says : x ≡ answer_of length c
  pub leaves : y ≡ buffer_after out c

-- the joint sheet to a buffer
abbrev pub Limits : (u v out : List ℕ) → Said → List ℕ → Type 0
Limits u v out = Gives out (limited (joint_in u v) (length out))
