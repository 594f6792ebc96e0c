-- The index of a sheet that passes: where each rule begins and where its target stands, and which rules match alike.
use Rattle.std.specs.Prelude.{◌≡◌, cond, ℕ, suc, ◌+◌, ◌*◌, ◌^◌, eqb, length, get_or, take}
use mathlib.Core.List.{List, [], ◌∷◌, ◌++◌, map, flat_map}
use Rattle.model.specs.Lists.{numbers}
use Rattle.model.specs.Answers.{Checked, passes, refuses, ◌>>=◌, buffer_after}
use Rattle.model.specs.Sheet.{Rule, one, two, three, rule_words, Sheet, sheet_of}
use Rattle.model.specs.Spans.{WordsAt}

-- ---- the sheet of words that pass

unfoldable pub passed : Checked Sheet → Sheet
passed (passes s) = s
passed (refuses n i) = record { states = 0; final = []; tags = 0; rules = [] }

abbrev pub sheet_in : List ℕ → Sheet
sheet_in s = passed (sheet_of s)

abbrev pub rules_in : List ℕ → List Rule
rules_in s = (sheet_in s).rules

pub record Passes (s : List ℕ) : Type 0 where
  pub as_sheet : sheet_of s ≡ passes (sheet_in s)

-- rule j
abbrev pub nth : List Rule → ℕ → Rule
nth R j = get_or R j (one 0 0)

-- where rule j begins, if the first begins at `at`
abbrev pub begin : (p at : ℕ) → List Rule → (j : ℕ) → ℕ
begin p at R j = at + length (flat_map (rule_words p) (take j R))

-- ---- rules that match alike

-- What a rule matches, by a number: content 0, the kinds of text 1 and 2, a tag 2 more than its number.
unfoldable pub key : Rule → ℕ
key (one k q) = k
key (two a c q) = 2 + a
key (three o c q) = 0

abbrev pub keys : ℕ
keys = 67

-- The number of the first of the rules that has key k, where they are numbered from j on; if none has, the number after the last.
unfoldable pub first_with : (k j : ℕ) → List Rule → ℕ
first_with k j [] = j
first_with k j (r ∷ R) = cond (eqb (key r) k) j (first_with k (suc j) R)

-- ---- the index

-- for each key its first rule
unfoldable pub index_heads : List Rule → List ℕ
index_heads R = map (λ k. first_with k 0 R) (numbers keys)

-- Each rule in one word: where it begins, and from bit 16 on the number of the next rule with its key. After the last rule, where it
-- ends. A rule's target is its last word: it stands before the word where the next entry begins.
unfoldable pub entries : (p at j : ℕ) → List Rule → List ℕ
entries p at j [] = at ∷ []
entries p at j (r ∷ R) = (at + first_with (key r) (suc j) R * 2 ^ 16) ∷ entries p (at + length (rule_words p r)) (suc j) R

-- the heads, then the entries; the first rule begins after six words
unfoldable pub index_words : Sheet → List ℕ
index_words s = index_heads s.rules ++ entries s.states 6 0 s.rules

-- The call that checks a sheet leaves its index at the front of a lent buffer. Where it refuses, it leaves the buffer as it was.
unfoldable pub index_after : List ℕ → List ℕ → List ℕ
index_after buffer s = buffer_after buffer (sheet_of s >>= λ t. passes (index_words t))

-- a sheet that passes, with its index at the front of a buffer
pub record Indexed (s index : List ℕ) : Type 0 where
  pub sheet : Passes s
  pub there : WordsAt index 0 (length (index_words (sheet_in s))) (index_words (sheet_in s))
