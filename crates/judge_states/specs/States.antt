-- What a node's state word says of the states that it reaches.
use Rattle.std.specs.Prelude.{◌≡◌, List, ℕ, suc, ◌≤◌, Option, None, Some}
use Rattle.model.specs.Run.{Reached, nothing, just, several, gist}
use Rattle.bits.specs.Stands.{Stands}

-- 0, or one more than the state; none of several
abbrev pub Word : Reached → Option ℕ → Type 0
Word nothing w = w ≡ Some 0
Word (just q) w = (w ≡ Some (suc q)) × (suc q ≤ 64)
Word several w = w ≡ None

-- of a node that reaches the states of this set
pub record WordOf (targets : ℕ) (w : Option ℕ) : Type 0 where
  pub says : (l : List ℕ) → Stands targets l → Word (gist l) w
