-- The table of a name list: where each of its lines begins, and its tags in chains, by buckets of their names.
use Rattle.std.specs.Prelude.{◌≡◌, Bool, cond, ◌||◌, ℕ, zero, suc, ◌+◌, ◌-◌, ◌*◌, ◌%◌, ◌≤◌, ◌<◌, eqb, leb, ltb, Option, Some, None}
use Rattle.std.specs.Prelude.{List, [], length, get_or, set, take, drop, replicate}
use Rattle.model.specs.Bytes.{same_bytes}
use Rattle.model.specs.Names.{bare, name_of}
use Rattle.std.proofs.lemmas.List.Edits.{sets}
use Rattle.offsets.specs.Lines.{Indexed, line_starts}
use Rattle.tags.specs.declared.Table.{Table}

-- the first tag of chain h, and the tag after tag t in its chain; 0 where there is none
abbrev pub first_of : Table → ℕ → ℕ
first_of table h = get_or table.firsts h 0

abbrev pub next_of : Table → ℕ → ℕ
next_of table t = get_or table.nexts t 0

-- Tags are 1 to 64. The name of a tag by a table: the part of the list that its entries bound, without its last byte.
abbrev pub no_tag : ℕ → Bool
no_tag a = eqb a 0 || ltb 64 a

unfoldable pub name_by : List ℕ → Table → ℕ → List ℕ
name_by list table a =
    let from = get_or table.starts (a - 1) 0 in
    cond (no_tag a) [] (bare (take (get_or table.starts a 0 - from) (drop from list)))

-- ---- the tag of a name

-- the bucket of a name, one of 64, by its first byte and its last two
unfoldable pub bucket : List ℕ → ℕ
bucket name = (get_or name 0 0 + 9 * get_or name (length name - 2) 0 + get_or name (length name - 1) 0) % 64

-- along a chain from tag t on, over tags n to 1, each smaller than the one before: the first with the name, 0 where there is none
unfoldable pub along : List ℕ → Table → List ℕ → (n t : ℕ) → ℕ
along list table name zero t = 0
along list table name (suc n) t =
    let here = cond (same_bytes (name_by list table t) name) t (along list table name n (next_of table t)) in
    cond (eqb t (suc n)) here (along list table name n t)

abbrev pub found_by : List ℕ → Table → List ℕ → ℕ
found_by list table name = along list table name 64 (first_of table (bucket name))

-- the tag as it is told, none in place of 0
abbrev pub tag_or_none : ℕ → Option ℕ
tag_or_none zero = None
tag_or_none (suc t) = Some (suc t)

-- ---- how a table is made

abbrev pub empty : Table
empty = record { starts = replicate 65 0; firsts = replicate 64 0; nexts = replicate 65 0 }

-- the table with the offsets of a list's lines
abbrev pub with_starts : List ℕ → Table → Table
with_starts list table = record { starts = sets table.starts 0 (line_starts list); firsts = table.firsts; nexts = table.nexts }

-- tag t before the first of chain h
abbrev pub put_first : Table → (h t : ℕ) → Table
put_first table h t = record { starts = table.starts; firsts = set table.firsts h t; nexts = set table.nexts t (first_of table h) }

unfoldable pub linked : Table → (h t : ℕ) → Table
linked table h t = cond (leb 64 h || ltb 64 t) table (put_first table h t)

-- a table in which no chain has begun: whatever its other entries are, those of a list can be noted in it
pub record Unchained (table : Table) : Type 0 where
  pub lines : length table.starts ≡ 65
  pub chains : length table.firsts ≡ 64
  pub tags : length table.nexts ≡ 65
  pub first : (h : ℕ) → h < 64 → first_of table h ≡ 0

-- t is the last of the tags up to tag a whose name is in bucket h, 0 where there is none
pub record Last (list : List ℕ) (a h t : ℕ) : Type 0 where
  pub few : t ≤ a
  pub there : 0 < t → bucket (name_of list t) ≡ h
  pub most : (b : ℕ) → 1 ≤ b → b ≤ a → bucket (name_of list b) ≡ h → b ≤ t

-- A table of a list with the tags up to tag a in their chains: each chain begins with its last tag, and goes on with the one before.
pub record TableOf (list : List ℕ) (table : Table) (a : ℕ) : Type 0 where
  pub lines : length table.starts ≡ 65
  pub chains : length table.firsts ≡ 64
  pub tags : length table.nexts ≡ 65
  pub index : Indexed list table.starts
  pub first : (h : ℕ) → h < 64 → Last list a h (first_of table h)
  pub next : (b : ℕ) → 1 ≤ b → b ≤ a → Last list (b - 1) (bucket (name_of list b)) (next_of table b)
