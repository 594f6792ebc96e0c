-- Whether bytes are a name, byte by byte, and what is asked of a line.
use mathlib.Core.Path.{◌≡◌, refl}
use mathlib.Core.Logic.{◌≢◌}
use mathlib.Core.Bool.{true, false}
use mathlib.Core.List.{List, [], ◌∷◌, ◌++◌}
use Prim.Native.Nat.{ℕ, ◌-◌, ◌≤◌, ◌<◌}
use native.Mathlib.Omega.{arith}
use lib.ListN.{length, length-append, get_or}
use lib.Seq.{get_or-append_seam, take-append_seam}
use borrow.Author.Tests.{le-leb, lt-leb, eq-eqb, ne_eqb}
use Rattle.model.specs.Bytes.{letter_byte, name_byte, is_name}
use Rattle.model.specs.Lists.{every}
use Rattle.model.specs.Names.{bare}
use Rattle.name_line.specs.Named.{named_line}

pub name_none : (s : List ℕ) → length s ≡ 0 → is_name s ≡ false
unfolding is_name
name_none [] e = refl
name_none (b ∷ s) e = absurd (omega arith)

module _ {s rest : List ℕ} {b : ℕ} (split : s ≡ b ∷ rest) where
  pub name_no : letter_byte b ≡ false → is_name s ≡ false
  unfolding is_name
  name_no e = rw (split, e)

  pub name_yes : letter_byte b ≡ true → is_name s ≡ every name_byte rest
  unfolding is_name
  name_yes e = rw (split, e)

module _ (line name : List ℕ) (last : ℕ) (split : line ≡ name ++ (last ∷ [])) where
  ends : length line - 1 ≡ length name
  ends = rw (split, length-append name (last ∷ [])) (omega arith)

  name_there : bare line ≡ name
  name_there = rw (ends, split) (take-append_seam name (last ∷ []))

  last_there : get_or line (length line - 1) 0 ≡ last
  last_there = rw (ends, split) (get_or-append_seam name last [] 0)

  pub line-long : 24 < length name → named_line line ≡ false
  unfolding named_line
  line-long h = rw (name_there, lt-leb _ _ h)

  module _ (short : length name ≤ 24) where
    pub line_open : last ≢ 10 → named_line line ≡ false
    unfolding named_line
    line_open e = rw (name_there, last_there, le-leb _ _ short, ne_eqb _ _ e)

    pub line-closed : last ≡ 10 → named_line line ≡ is_name name
    unfolding named_line
    line-closed e = rw (name_there, last_there, le-leb _ _ short, eq-eqb _ _ e)

pub line-empty : (line : List ℕ) → length line ≡ 0 → named_line line ≡ false
unfolding named_line
line-empty [] e = refl
line-empty (b ∷ line) e = absurd (omega arith)

-- a line by its length and its last byte
pub ruleset line_laws = (line-empty, line-long, line_open, line-closed)
