-- What is asked of a line by itself.
use Rattle.std.specs.Prelude.{Bool, ◌&&◌, List, ℕ, ◌-◌, eqb, leb, length, get_or}
use Rattle.model.specs.Bytes.{is_name}
use Rattle.model.specs.Names.{bare}

-- a name of at most 24 bytes and a line feed
unfoldable pub named_line : List ℕ → Bool
named_line line = leb (length (bare line)) 24 && (eqb (get_or line (length line - 1) 0) 10 && is_name (bare line))
