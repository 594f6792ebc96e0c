-- A set of numbers below 64, as bits and as a list.
use Rattle.std.specs.Prelude.{◌≡◌, List, ℕ, ◌^◌, ◌<◌}
use Rattle.model.specs.Lists.{has}
use Rattle.model.specs.Sheet.{bit}

-- the bits of `set` are the members of l
pub record Stands (set : ℕ) (l : List ℕ) : Type 0 where
  pub fits : set < 2 ^ 64
  pub same : (q : ℕ) → bit set q ≡ has l q
