-- The index of a sheet while it is made: its heads, and the entries of its rules.
use Rattle.std.specs.Prelude.{◌≡◌, List, ℕ, ◌+◌, ◌*◌, ◌^◌, ◌≤◌, ◌<◌, length, get_or, set}
use Rattle.parts.specs.Lengths.{key_by}

-- the key of the rule that begins at a word
abbrev pub key_at : List ℕ → ℕ → ℕ
key_at s at = key_by (get_or s at 0) (get_or s (at + 1) 0)

-- the index with rule j before the first rule with its key: j and `at` are small enough for one word, and so are all heads
unfoldable pub with_entry : (s index : List ℕ) (j at : ℕ) → List ℕ
with_entry s index j at = set (set index (67 + j) (at + get_or index (key_at s at) 0 * 2 ^ 16)) (key_at s at) j

pub record EntryFits (index : List ℕ) (j at : ℕ) : Type 0 where
  pub room : length index ≡ 1092
  pub rule : j < 1024
  pub place : at < 2 ^ 16
  pub heads : (k : ℕ) → k < 67 → get_or index k 0 ≤ 1024
