-- The lengths of the parts of a sheet that are at an index, by the words there, and the key of a rule by its first two words.
use Rattle.std.specs.Prelude.{cond, List, ℕ, ◌+◌, ◌*◌, min, eqb, leb, length, get_or}
use Rattle.model.specs.Sheet.{W, members}

-- number of positions, two words of accepting positions, number of arcs, the arcs
unfoldable pub order_length : List ℕ → ℕ → ℕ
order_length s a = 4 + get_or s (a + 3) 0

-- two words of marks, and a coefficient for each mark
unfoldable pub sum_length : (low high : ℕ) → ℕ
sum_length low high = 2 + length (members 64 (low + high * W))

-- A step of kind 1 or 2 has its kind, a sum, and as many words more as its kind says; one of kind 3 a step's number, all others two.
unfoldable pub step_length : List ℕ → ℕ → ℕ
step_length s a =
    cond (leb (get_or s a 0) 2) (1 + sum_length (get_or s (a + 1) 0) (get_or s (a + 2) 0) + get_or s a 0) (cond (eqb (get_or s a 0) 3) 2 3)

-- By its map and its second word: a text's kind, of which there are two; 2 more than a tag's number, of which there are at most 64;
-- 0 for content.
unfoldable pub key_by : (map second : ℕ) → ℕ
key_by map second = cond (eqb map 33) (min second 2) (cond (eqb map 38) (2 + min second 64) 0)
