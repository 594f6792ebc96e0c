-- Sums among the words of a sheet, and what is written of them.
use Rattle.std.specs.Prelude.{◌≡◌, List, map, ℕ}
use Rattle.model.specs.Lists.{has}
use Rattle.model.specs.Sheet.{Coefficient, mask, marks, signed_word, sum_words, SumInRange}
use Rattle.model.specs.Compose.{lift_sum}
use Rattle.join_pairs.specs.declared.Half.{Half}
use Rattle.join_pairs.specs.Sides.{side_of, sizes_of, own_states, pairs_of}
use Rattle.join_sum.specs.declared.Sum.{Sum}

-- the code has found a sum over p states
pub record SumOf (p : ℕ) (x : Sum) (cs : List Coefficient) : Type 0 where
  pub ranges : SumInRange p cs
  pub marks : x.marks ≡ mask p (has (marks cs))
  pub words : x.times.now ≡ map (λ c. signed_word c.times) cs

-- what is written of it
abbrev pub LiftsSum : Half → Sum → (List ℕ → Type 0) → Type 0
LiftsSum h x Written =
    (cs : List Coefficient) → SumOf (own_states h) x cs
    → Written (sum_words (pairs_of h) (lift_sum (side_of h.side) (sizes_of h.sizes) cs))
