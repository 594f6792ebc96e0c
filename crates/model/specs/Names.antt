-- The name list: document 01, "Text and names", and refusal 8.
use Rattle.std.specs.Prelude.{Bool, cond, ◌&&◌, List, [], ◌∷◌, ℕ, suc, ◌+◌, ◌-◌, eqb, leb, ltb, length, take, get_or}
use Rattle.model.specs.Answers.{Checked, passes, refuses}
use Rattle.model.specs.Bytes.{line_feed, is_name, same_bytes}

-- the lines of a list of bytes, each with the byte 10 that ends it; the last may lack it
unfoldable pub prepend : ℕ → List (List ℕ) → List (List ℕ)
prepend b [] = (b ∷ []) ∷ []
prepend b (l ∷ ls) = (b ∷ l) ∷ ls

unfoldable pub lines : List ℕ → List (List ℕ)
lines [] = []
lines (b ∷ s) = cond (eqb b line_feed) ((b ∷ []) ∷ lines s) (prepend b (lines s))

-- a line without its last byte
abbrev pub bare : List ℕ → List ℕ
bare l = take (length l - 1) l

-- The order numbers the tags: the number, from k + 1 on, of the first of the lines that holds the name; 0 where none does.
unfoldable pub number_from : ℕ → List ℕ → List (List ℕ) → ℕ
number_from k name [] = 0
number_from k name (l ∷ ls) = cond (same_bytes (bare l) name) (suc k) (number_from (suc k) name ls)

-- the tag of a name in a name list, 0 where it is not listed; the name of a tag
unfoldable pub tag_of : List ℕ → List ℕ → ℕ
tag_of list name = number_from 0 name (lines list)

unfoldable pub name_of : List ℕ → ℕ → List ℕ
name_of list a = bare (get_or (lines list) (a - 1) [])

-- A line holds a name of 1 to 24 bytes and byte 10; it is not the 65th, and no line before it, of which there are k, holds its name.
unfoldable pub good_line : List (List ℕ) → ℕ → List ℕ → Bool
good_line all k l =
    ltb k 64 && (leb (length (bare l)) 24
    && (eqb (get_or l (length l - 1) 0) line_feed && (is_name (bare l) && eqb (number_from 0 (bare l) (take k all)) 0)))

-- the first byte of the first bad line; the lines from line k on begin at the offset
unfoldable pub lines_checked : List (List ℕ) → (k offset : ℕ) → List (List ℕ) → Checked ℕ
lines_checked all k offset [] = passes k
lines_checked all k offset (l ∷ ls) = cond (good_line all k l) (lines_checked all (suc k) (offset + length l) ls) (refuses 8 offset)

-- 8: the first bad line, 0 if empty. A list that passes has as many names as lines.
unfoldable pub names_of : List ℕ → Checked ℕ
names_of [] = refuses 8 0
names_of (b ∷ s) = lines_checked (lines (b ∷ s)) 0 0 (lines (b ∷ s))
