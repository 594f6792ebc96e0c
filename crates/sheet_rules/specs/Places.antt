-- Where rules begin, noted in a table while they are checked.
use Rattle.std.specs.Prelude.{◌≡◌, List, ℕ, ◌≤◌, ◌<◌, length, get_or}
use Rattle.model.specs.Index.{begin, rules_in, sheet_in, Passes}

-- as far as the table goes, it has where each of the first n rules of a sheet begins
abbrev pub BeginsOf : (n : ℕ) (s places : List ℕ) → Type 0
BeginsOf n s places = (k : ℕ) → k < n → k < length places → get_or places k 0 ≡ begin (sheet_in s).states 6 (rules_in s) k

-- the words pass as a sheet with p states, g tags and n rules, which are read from the index `first` on
pub record RulesFrom (p g n : ℕ) (s : List ℕ) (first : ℕ) : Type 0 where
  pub sheet : Passes s
  pub states : p ≡ (sheet_in s).states
  pub tags : g ≡ (sheet_in s).tags
  pub number : n ≡ length (rules_in s)
  pub begins : first ≡ 6

-- all rules are noted, if they are those of a sheet that passes
pub record Begins (p g n : ℕ) (s : List ℕ) (first : ℕ) (places : List ℕ) : Type 0 where
  pub noted : RulesFrom p g n s first → BeginsOf n s places

pub record Places (s places : List ℕ) : Type 0 where
  pub noted : Passes s → BeginsOf (length (rules_in s)) s places

-- of a sheet that passes, in a table for all rules that a sheet may have
pub record Placed (s places : List ℕ) : Type 0 where
  pub sheet : Passes s
  pub noted : BeginsOf (length (rules_in s)) s places
  pub room : 1024 ≤ length places
