-- Sets of numbers below 64, as the bits of a number.
use Rattle.std.specs.Prelude.{true, cond, not, ◌&&◌, ℕ, ◌*◌, ◌/◌, ◌%◌, min, leb}
use Rattle.model.specs.Sheet.{mask, bit}

-- of the numbers below 64, those below k; and those of them that are not in a set
unfoldable pub all_below : (k : ℕ) → ℕ
all_below k = mask (min k 64) (λ i. true)

unfoldable pub complement : (set k : ℕ) → ℕ
complement set k = mask (min k 64) (λ i. not (bit set i))

-- The pairs of a member of s and a member of t, of the pairs of a number below m and a number below n: these are numbered row by row, n to
-- a row. No pair, where there are over 64.
unfoldable pub pair_set : (m n s t : ℕ) → ℕ
pair_set m n s t = cond (leb (m * n) 64) (mask (m * n) (λ x. bit s (x / n) && bit t (x % n))) 0
