-- The limits of refusal 21 by their places, and the first of them that is exceeded.
use Rattle.std.specs.Prelude.{Bool, cond, ℕ, leb, Option, Some, None}
use Rattle.limits.specs.declared.Limit.{Limit}
use Rattle.limits.specs.declared.Limit.TheVariants.{States, Rules, Positions, Arcs, Steps, Words}

-- document 01's number of a limit
abbrev pub place : Limit → ℕ
place States = 1
place Rules = 2
place Positions = 3
place Arcs = 4
place Steps = 5
place Words = 6

-- the first of the limits of positions, arcs and steps that isn't kept
abbrev pub first_of : (positions arcs steps : Bool) → Option Limit
first_of positions arcs steps = cond positions (cond arcs (cond steps None (Some Steps)) (Some Arcs)) (Some Positions)

-- the earlier of two limits, as far as there are any
abbrev pub earlier : Option Limit → Option Limit → Option Limit
earlier None l = l
earlier (Some k) None = Some k
earlier (Some k) (Some l) = Some (cond (leb (place k) (place l)) k l)
