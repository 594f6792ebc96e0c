-- The two sheets of a join, by their words u and v.
use Rattle.std.specs.Prelude.{ℕ}
use mathlib.Core.List.{List}
use Rattle.model.specs.Compose.{Sizes, sizes}
use Rattle.model.specs.Index.{sheet_in}

-- how many states they have
abbrev pub sizes_in : List ℕ → List ℕ → Sizes
sizes_in u v = sizes (sheet_in u) (sheet_in v)
