-- Where the lines of a name list begin.
use Rattle.std.specs.Prelude.{◌≡◌, List, [], ◌∷◌, map, ℕ, zero, suc, ◌+◌, ◌≤◌, min, length, get_or}
use Rattle.model.specs.Lists.{numbers}
use Rattle.model.specs.Names.{lines}

-- line k, none past the last
abbrev pub line : List ℕ → ℕ → List ℕ
line list k = get_or (lines list) k []

-- the offset where line k begins, past the last line the offset where it ends: the bytes of the lines before
unfoldable pub start_of : List (List ℕ) → ℕ → ℕ
start_of ls zero = 0
start_of [] (suc k) = 0
start_of (l ∷ ls) (suc k) = length l + start_of ls k

-- an index is of the first 64 lines: the offsets where they begin, and the offset where the last of them ends
abbrev pub line_count : List ℕ → ℕ
line_count list = min 64 (length (lines list))

abbrev pub line_starts : List ℕ → List ℕ
line_starts list = map (start_of (lines list)) (numbers (line_count list + 1))

-- `starts` begins with the index
pub record Indexed (list starts : List ℕ) : Type 0 where
  pub start : (k : ℕ) → k ≤ line_count list → get_or starts k 0 ≡ start_of (lines list) k
