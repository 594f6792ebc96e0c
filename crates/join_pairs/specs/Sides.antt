-- The two sheets of a join, as the code has them.
use Rattle.std.specs.Prelude.{ℕ}
use Rattle.model.specs.Compose as model
use Rattle.model.specs.Compose.{of_side, of_other, of_pairs}
use Rattle.join_pairs.specs.declared.Side.{Side}
use Rattle.join_pairs.specs.declared.Side.TheVariants.{S, T}
use Rattle.join_pairs.specs.declared.Sizes.{Sizes}
use Rattle.join_pairs.specs.declared.Half.{Half}

abbrev pub side_of : Side → model.Side
side_of S = model.S
side_of T = model.T

abbrev pub sizes_of : Sizes → model.Sizes
sizes_of n = record { of_S = n.s; of_T = n.t }

-- how many states one of them has, how many the other, and how many pairs there are
abbrev pub own_states : Half → ℕ
own_states h = of_side (side_of h.side) (sizes_of h.sizes)

abbrev pub other_states : Half → ℕ
other_states h = of_other (side_of h.side) (sizes_of h.sizes)

abbrev pub pairs_of : Half → ℕ
pairs_of h = of_pairs (sizes_of h.sizes)
