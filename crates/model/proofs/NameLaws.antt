-- A checked name list: its tags and its names go back and forth.
use mathlib.Core.Path.{◌≡◌, refl, sym, ap, ap₂, subst, ◌∙◌}
use mathlib.Core.Logic.{◌≢◌}
use mathlib.Core.Bool.{Bool, true, false, cond, ◌&&◌}
use mathlib.Core.List.{List, [], ◌∷◌, ◌++◌}
use Prim.Native.Nat.{ℕ, zero, suc, ◌+◌, ◌-◌, ◌≤◌, ◌<◌}
use native.Mathlib.Omega.{arith}
use native.Mathlib.Nat.{add-zero, zero-add}
use lib.Dec.{eqb, leb, ltb}
use lib.ListN.{length, get_or, take, drop}
use lib.Seq.{split_at, length-take-le}
use borrow.Author.Tests.{eqb-true, leb-true, ltb-true}
use Rattle.model.specs.Answers.{passes, refuses}
use Rattle.model.specs.Bytes.{line_feed, is_name, same_bytes}
use Rattle.model.specs.Names.{lines, prepend, bare, number_from, tag_of, name_of, good_line, lines_checked, names_of}
use Rattle.model.proofs.Tests.{Yes, never, and_left, and_right, and_yes, same, eqb_yes}
use Rattle.model.proofs.CheckLaws.{passes_inj, refuses≢passes}

-- ---- bytes

pub same-bytes_refl : (s : List ℕ) → Yes (same_bytes s s)
unfolding same_bytes
same-bytes_refl [] = refl
same-bytes_refl (b ∷ s) = and_yes (eqb_yes {m = b} refl) (same-bytes_refl s)

pub bytes_same : (s t : List ℕ) → Yes (same_bytes s t) → s ≡ t
unfolding same_bytes
bytes_same [] [] h = refl
bytes_same [] (b ∷ t) h = never h
bytes_same (a ∷ s) [] h = never h
bytes_same (a ∷ s) (b ∷ t) h = ap₂ ◌∷◌ (same a b (and_left (eqb a b) (same_bytes s t) h))
    (bytes_same s t (and_right (eqb a b) (same_bytes s t) h))

-- ---- lines

-- a list that is checked has each line in order, and as many names as lines
abbrev AllGood : List (List ℕ) → ℕ → List (List ℕ) → Type 0
AllGood all k [] = Unit {0}
AllGood all k (l ∷ ls) = Yes (good_line all k l) × AllGood all (suc k) ls

check-lines : (all : List (List ℕ)) (k offset : ℕ) (ls : List (List ℕ)) (g : ℕ) → lines_checked all k offset ls ≡ passes g →
    (g ≡ k + length ls) × AllGood all k ls
unfolding lines_checked
check-lines all k offset [] g e = (sym (passes_inj e) ∙ sym (add-zero k), tt)
check-lines all k offset (l ∷ ls) g e = by (good_line all k l) refl e (check-lines all (suc k) (offset + length l) ls g)
  where
    by : (b : Bool) → good_line all k l ≡ b → cond b (lines_checked all (suc k) (offset + length l) ls) (refuses 8 offset) ≡ passes g
        → (lines_checked all (suc k) (offset + length l) ls ≡ passes g → (g ≡ suc k + length ls) × AllGood all (suc k) ls)
        → (g ≡ k + suc (length ls)) × (Yes (good_line all k l) × AllGood all (suc k) ls)
    by true h e ih = ((ih e).0 ∙ omega arith, (h, (ih e).1))
    by false h e ih = absurd (refuses≢passes e)

good-at : (all : List (List ℕ)) (k : ℕ) (ls : List (List ℕ)) → AllGood all k ls → (j : ℕ) → j < length ls → Yes
    (good_line all (k + j) (get_or ls j []))
good-at all k [] h j i = absurd (omega arith)
good-at all k (l ∷ ls) h zero i = rw add-zero h.0
good-at all k (l ∷ ls) h (suc j) i =
    let e : suc k + j ≡ k + suc j = omega arith in
    subst (λ (m : ℕ). Yes (good_line all m (get_or ls j []))) e (good-at all (suc k) ls h.1 j (omega arith))

-- ---- numbers of names

-- the first line that holds the name
first-at : (k : ℕ) (name : List ℕ) (xs : List (List ℕ)) (l : List ℕ)
    (ys : List (List ℕ)) → number_from k name xs ≡ 0 → bare l ≡ name → number_from k name (xs ++ (l ∷ ys)) ≡ suc (k + length xs)
unfolding number_from
first-at k name [] l ys z e = rw (e, same-bytes_refl name, add-zero)
first-at k name (x ∷ xs) l ys z e = by (same_bytes (bare x) name) z (λ q. first-at (suc k) name xs l ys q e)
  where
    by : (b : Bool) → cond b (suc k) (number_from (suc k) name xs) ≡ 0 →
        (number_from (suc k) name xs ≡ 0 → number_from (suc k) name (xs ++ (l ∷ ys)) ≡ suc (suc k + length xs))
        → cond b (suc k) (number_from (suc k) name (xs ++ (l ∷ ys))) ≡ suc (k + suc (length xs))
    by true z ih = absurd (omega arith)
    by false z ih = ih z ∙ omega arith

-- a number that is not 0 is that of a line with the name
pub number_at : (k : ℕ) (name : List ℕ) (ls : List (List ℕ)) → number_from k name ls ≢ 0 → (j : ℕ) × (j < length ls) ×
    (number_from k name ls ≡ suc (k + j)) × (bare (get_or ls j []) ≡ name)
unfolding number_from
number_at k name [] h = absurd (h refl)
number_at k name (l ∷ ls) h = by (same_bytes (bare l) name) refl h (number_at (suc k) name ls)
  where
    Found : ℕ → Type 0
    Found n = (j : ℕ) × (j < suc (length ls)) × (n ≡ suc (k + j)) × (bare (get_or (l ∷ ls) j []) ≡ name)

    by : (b : Bool) → same_bytes (bare l) name ≡ b → cond b (suc k) (number_from (suc k) name ls) ≢ 0
        → (number_from (suc k) name ls ≢ 0 → (j : ℕ) × (j < length ls) × (number_from (suc k) name ls ≡ suc (suc k + j)) ×
        (bare (get_or ls j []) ≡ name)) → Found (cond b (suc k) (number_from (suc k) name ls))
    by true e h ih = (0, omega arith, omega arith, bytes_same (bare l) name e)
    by false e h ih = let (j, i, n, m) = ih h in (suc j, omega arith, n ∙ omega arith, m)

-- ---- a checked list

check-all : (list : List ℕ) (g : ℕ) → names_of list ≡ passes g → lines_checked (lines list) 0 0 (lines list) ≡ passes g
unfolding names_of
check-all [] g e = absurd (refuses≢passes e)
check-all (b ∷ s) g e = e

prepend-some : (b : ℕ) (ls : List (List ℕ)) → 1 ≤ length (prepend b ls)
unfolding prepend
prepend-some b [] = omega arith
prepend-some b (l ∷ ls) = omega arith

lines-some : (list : List ℕ) (g : ℕ) → names_of list ≡ passes g → 1 ≤ length (lines list)
unfolding names_of lines
lines-some [] g e = absurd (refuses≢passes e)
lines-some (b ∷ s) g e = by (eqb b 10)
  where
    by : (t : Bool) → 1 ≤ length (cond t ((b ∷ []) ∷ lines s) (prepend b (lines s)))
    by true = omega arith
    by false = prepend-some b (lines s)

-- a good line, test by test
pub record GoodLine (all : List (List ℕ)) (k : ℕ) (l : List ℕ) : Type 0 where
  pub few : k < 64
  pub short : length (bare l) ≤ 24
  pub ended : Yes (eqb (get_or l (length l - 1) 0) line_feed)
  pub name : Yes (is_name (bare l))
  pub new : number_from 0 (bare l) (take k all) ≡ 0

pub good-line-is : (all : List (List ℕ)) (k : ℕ) (l : List ℕ) → Yes (good_line all k l) → GoodLine all k l
unfolding good_line
good-line-is all k l h =
    let a = ltb k 64 in
    let b = leb (length (bare l)) 24 in
    let c = eqb (get_or l (length l - 1) 0) 10 in
    let d = is_name (bare l) in
    let f = eqb (number_from 0 (bare l) (take k all)) 0 in
    let h₁ = and_right a (b && (c && (d && f))) h in
    let h₂ = and_right b (c && (d && f)) h₁ in
    let h₃ = and_right c (d && f) h₂ in
    record {
      few = ltb-true k 64 (and_left a _ h);
      short = leb-true _ 24 (and_left b _ h₁);
      ended = and_left c _ h₂;
      name = and_left d f h₃;
      new = eqb-true _ 0 (and_right d f h₃);
    }

module _ (list : List ℕ) (g : ℕ) (checked : names_of list ≡ passes g) where
  facts : (g ≡ 0 + length (lines list)) × AllGood (lines list) 0 (lines list)
  facts = check-lines (lines list) 0 0 (lines list) g (check-all list g checked)

  -- as many names as lines
  pub lines-counted : length (lines list) ≡ g
  lines-counted = omega (arith, facts.0)

  pub line_at : (j : ℕ) → j < g → GoodLine (lines list) j (get_or (lines list) j [])
  line_at j h = good-line-is (lines list) j (get_or (lines list) j [])
      (rw zero-add at (good-at (lines list) 0 (lines list) facts.1 j (omega (arith, facts.0))))

  -- 1 to 64 names
  pub some-names : 1 ≤ g
  some-names = omega (arith, facts.0, lines-some list g checked)

  pub few-names : g ≤ 64
  few-names = omega (arith, some-names, (line_at (g - 1) (omega (arith, some-names))).few)

  -- a tag's name is a name of at most 24 bytes, and its tag is that tag
  module _ (a : ℕ) (h : 1 ≤ a) (i : a ≤ g) where
    pub name_is : Yes (is_name (name_of list a))
    unfolding name_of
    name_is = (line_at (a - 1) (omega arith)).name

    pub name-short : length (name_of list a) ≤ 24
    unfolding name_of
    name-short = (line_at (a - 1) (omega arith)).short

    pub tag_of_name : tag_of list (name_of list a) ≡ a
    unfolding tag_of name_of
    tag_of_name =
        let inside : a - 1 < length (lines list) = omega (arith, facts.0) in
        let n : length (take (a - 1) (lines list)) ≡ a - 1 = length-take-le (a - 1) (lines list) (omega arith) in
        ap (number_from 0 (bare (get_or (lines list) (a - 1) []))) (split_at (lines list) (a - 1) [] inside)
        ∙ first-at 0 _ (take (a - 1) (lines list)) (get_or (lines list) (a - 1) []) (drop (suc (a - 1)) (lines list))
        (line_at (a - 1) (omega arith)).new refl
        ∙ omega arith

  -- a listed name is the name of its tag, which is 1 to g
  module _ (name : List ℕ) (listed : tag_of list name ≢ 0) where
    place : (j : ℕ) × (j < length (lines list)) × (number_from 0 name (lines list) ≡ suc (0 + j)) × (bare (get_or (lines list) j []) ≡ name)
    unfolding tag_of
    place = number_at 0 name (lines list) listed

    pub tag_some : 1 ≤ tag_of list name
    tag_some = omega arith

    pub tag_few : tag_of list name ≤ g
    unfolding tag_of place
    tag_few = let (j, i, n, m) = place in omega (arith, facts.0)

    pub name_of_tag : name_of list (tag_of list name) ≡ name
    unfolding tag_of name_of place
    name_of_tag =
        let (j, i, n, m) = place in
        let e : number_from 0 name (lines list) - 1 ≡ j = omega arith in
        ap (λ (k : ℕ). bare (get_or (lines list) k [])) e ∙ m
