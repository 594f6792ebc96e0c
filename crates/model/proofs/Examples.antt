-- Tables of examples: a property of every row.
use mathlib.Core.Path.{sym, subst}
use mathlib.Core.List.Memᴰ
use mathlib.Core.List.{List, [], ◌∷◌}
use Rattle.model.specs.Lists.{◌∈◌}
use Rattle.model.specs.Examples.{Row, Holds}

-- a property of every row
infixr 20 ◌and◌
pub data All (P : Row → Type 0) : List Row → Type 0 where
  that_is-all : All P []
  ◌and◌ : {a : Row} {l : List Row} → P a → All P l → All P (a ∷ l)

pub all-∈ : {l : List Row} → All Holds l → (a : Row) → a ∈ l → Holds a
all-∈ that_is-all a m = elim m [ ]
all-∈ (h and hs) a (Memᴰ.head e) = subst Holds (sym e) h
all-∈ (h and hs) a (Memᴰ.tail m) = all-∈ hs a m
