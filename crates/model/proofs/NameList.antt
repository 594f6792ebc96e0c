-- A name list passes exactly when it is 1 to 64 distinct names of 1 to 24 bytes, each followed by byte 10; its order numbers the tags.
use mathlib.Core.Path.{◌≡◌, refl, sym, ap, subst, ◌∙◌}
use mathlib.Core.Logic.{◌≢◌, ◌↔◌}
use mathlib.Core.Bool.{false}
use mathlib.Core.List.{List, [], ◌∷◌, ◌++◌, map, append-nil}
use Prim.Native.Nat.{ℕ, zero, suc, ◌+◌, ◌-◌, ◌≤◌, ◌<◌}
use native.Mathlib.Omega.{arith}
use native.Mathlib.Nat.{add-zero, zero-add}
use lib.Dec.{eqb}
use lib.ListN.{length, get_or, take, length-append, length-map}
use lib.Seq.{take_at, get_or_at, get_or-take, length-take-le}
use borrow.Author.Tests.{le-leb, lt-ltb}
use Rattle.model.specs.Lists.{every}
use Rattle.model.specs.Answers.{passes}
use Rattle.model.specs.Bytes.{line_feed, class_number, is, class_of, letter_byte, name_byte, is_name}
use Rattle.model.specs.Names.{lines, bare, number_from, tag_of, name_of, good_line, lines_checked, names_of}
use Rattle.model.specs.Grammar.{list_bytes, TagOf, NameList}
use Rattle.model.proofs.Tests.{Yes, Told, yea, nay, told, never, and_yes, or_left, same, eqb_yes, eqb_no, eqb-false}
use Rattle.model.proofs.ListLaws.{every-cons}
use Rattle.model.proofs.ByteLaws.{name-cons}
use Rattle.model.proofs.NameLaws.{number_at, lines-counted, line_at, some-names, few-names, name_is, name-short, tag_of_name}
use Rattle.model.proofs.NameLaws.{tag_few, name_of_tag}
use Rattle.model.proofs.ListLines.{Free, Lines, no_line, open_line, line, by_lines, ended-line, line_first, open_first, last_free}

-- ---- the names of a list that passes

-- the names that stand in the lines of a list
names_in : List ℕ → List (List ℕ)
names_in list = map bare (lines list)

bare-line : (name : List ℕ) → bare (ended-line name) ≡ name
bare-line name =
    take_at name (line_feed ∷ []) (length (ended-line name) - 1) (omega (arith, length-append name (line_feed ∷ [])))

-- each line ends in byte 10
abbrev AllEnded : List (List ℕ) → Type 0
AllEnded ls = (j : ℕ) → j < length ls → Yes (eqb (get_or (get_or ls j []) (length (get_or ls j []) - 1) 0) line_feed)

bytes_back : {list : List ℕ} → Lines list → AllEnded (lines list) → list_bytes (names_in list) ≡ list
unfolding names_in list_bytes lines
bytes_back no_line ended = refl
bytes_back (open_line b l f) ended =
    let nil : (b ∷ l) ++ [] ≡ b ∷ l = append-nil (b ∷ l) in
    let alone : lines (b ∷ l) ≡ (b ∷ l) ∷ [] = ap lines (sym nil) ∙ open_first b l [] f ∙ ap (λ x. x ∷ []) nil in
    let last : suc (length l) - 1 ≡ length l = omega arith in
    never (sym (last_free b l f) ∙ rw last at (subst AllEnded alone ended 0 (omega arith)))
bytes_back (line l rest f v) ended =
    let lines_are = line_first l rest f in
    rw (lines_are, bare-line l, bytes_back v (λ j h. subst AllEnded lines_are ended (suc j) (omega arith)))

map_at : (f : List ℕ → List ℕ) (l : List (List ℕ)) (j : ℕ) → j < length l → get_or (map f l) j [] ≡ f (get_or l j [])
map_at f [] j h = absurd (omega arith)
map_at f (x ∷ l) zero h = refl
map_at f (x ∷ l) (suc j) h = map_at f l j (omega arith)

-- the name of a tag in a list that passes
module _ (list : List ℕ) (g : ℕ) (checked : names_of list ≡ passes g) where
  counted : length (names_in list) ≡ g
  unfolding names_in
  counted = length-map (lines list) bare ∙ lines-counted list g checked

  name_in : {a : ℕ} {name : List ℕ} → TagOf (names_in list) a name → (a ≤ g) × (name_of list a ≡ name)
  unfolding names_in name_of
  name_in {a} t = (
    omega (arith, t.listed, counted),
    sym (map_at bare (lines list) (a - 1) (omega (arith, t.some, t.listed, length-map (lines list) bare))) ∙ t.name_is,
  )

  passed-names : NameList (names_in list)
  unfolding is_name
  passed-names = record {
    some = omega (arith, counted, some-names list g checked);
    few = omega (arith, counted, few-names list g checked);
    named = named;
    short = λ {a} {name} t.
        let (h, e) = name_in t in
        (nonempty name (named t), omega (arith, ap length e, name-short list g checked a t.some h));
    distinct = λ {a} {b} t u.
        let (h, e) = name_in t in
        let (k, f) = name_in u in
        sym (tag_of_name list g checked a t.some h) ∙ ap (tag_of list) (e ∙ sym f) ∙ tag_of_name list g checked b u.some k;
  }
    where
      named : {a : ℕ} {name : List ℕ} → TagOf (names_in list) a name → Yes (is_name name)
      named {a} t = let (h, e) = name_in t in subst (λ n. Yes (is_name n)) e (name_is list g checked a t.some h)

      nonempty : (name : List ℕ) → Yes (is_name name) → 1 ≤ length name
      nonempty [] h = never h
      nonempty (b ∷ name) h = omega arith

  passed-bytes : list_bytes (names_in list) ≡ list
  passed-bytes = bytes_back (by_lines list) (λ j h. (line_at list g checked j (omega (arith, lines-counted list g checked))).ended)

-- ---- the lines of a list of names

-- no name holds byte 10
byte_free : (b : ℕ) → Yes (name_byte b) → eqb b line_feed ≡ false
unfolding name_byte is class_of class_number
byte_free b h = eqb-false {m = b} {n = line_feed} (λ e. never (rw e at h))

bytes_free : (l : List ℕ) → Yes (every name_byte l) → Free l
bytes_free [] h = tt
bytes_free (b ∷ l) h = let (u, v) = every-cons name_byte b l h in (byte_free b u, bytes_free l v)

name_free : (name : List ℕ) → Yes (is_name name) → Free name
unfolding is_name letter_byte name_byte
name_free [] h = never h
name_free (b ∷ l) h = let (u, v) = name-cons b l h in (byte_free b (or_left _ u), bytes_free l v)

lines_back : (names : List (List ℕ)) → ((j : ℕ) → j < length names → Yes (is_name (get_or names j [])))
    → lines (list_bytes names) ≡ map ended-line names
unfolding list_bytes lines
lines_back [] named = refl
lines_back (name ∷ names) named =
    line_first name (list_bytes names) (name_free name (named 0 (omega arith)))
    ∙ ap (λ ls. ended-line name ∷ ls) (lines_back names (λ j h. named (suc j) (omega arith)))

bare-lines : (names : List (List ℕ)) → map bare (map ended-line names) ≡ names
bare-lines [] = refl
bare-lines (name ∷ names) = rw (bare-line name, bare-lines names)

-- good lines pass
good_pass : (all : List (List ℕ)) (k offset : ℕ) (ls : List (List ℕ))
    → ((j : ℕ) → j < length ls → Yes (good_line all (k + j) (get_or ls j [])))
    → lines_checked all k offset ls ≡ passes (k + length ls)
unfolding lines_checked
good_pass all k offset [] good = ap passes (sym (add-zero k))
good_pass all k offset (l ∷ ls) good =
    let next : suc k + length ls ≡ k + suc (length ls) = omega arith in
    rw (rw add-zero at (good 0 (omega arith)))
    (good_pass all (suc k) (offset + length l) ls
    (λ j h. let e : k + suc j ≡ suc k + j = omega arith in rw e at (good (suc j) (omega arith))) ∙ ap passes next)

by_lines-checked : (list : List ℕ) → 1 ≤ length (lines list) → names_of list ≡ lines_checked (lines list) 0 0 (lines list)
unfolding names_of lines
by_lines-checked [] h = absurd (omega arith)
by_lines-checked (b ∷ s) h = refl

module _ (names : List (List ℕ)) (is-list : NameList names) where
  tag_at : (j : ℕ) → j < length names → TagOf names (suc j) (get_or names j [])
  tag_at j h = let e : suc j - 1 ≡ j = omega arith in record { some = omega arith; listed = omega arith; name_is = rw e }

  lines_are : lines (list_bytes names) ≡ map ended-line names
  lines_are = lines_back names (λ j h. is-list.named (tag_at j h))

  -- a name stands in no earlier line
  name_new : (k : ℕ) → k < length names → number_from 0 (get_or names k []) (take k (map ended-line names)) ≡ 0
  name_new k h = go (told (eqb (number_from 0 (get_or names k []) (take k (map ended-line names))) 0))
    where
      all : List (List ℕ)
      all = map ended-line names

      go : Told (eqb (number_from 0 (get_or names k []) (take k all)) 0) → number_from 0 (get_or names k []) (take k all) ≡ 0
      go (yea t) = same (number_from 0 (get_or names k []) (take k all)) 0 t
      go (nay t) =
          let (j, i, _, e) = number_at 0 (get_or names k []) (take k all) (eqb_no t) in
          let before : j < k = omega (arith, length-take-le k all (omega (arith, length-map names ended-line))) in
          let line-is : get_or (take k all) j [] ≡ ended-line (get_or names j []) =
          get_or-take k all j [] before ∙ map_at ended-line names j (omega arith) in
          let f : get_or names j [] ≡ get_or names k [] = sym (bare-line (get_or names j [])) ∙ ap bare (sym line-is) ∙ e in
          absurd (omega (arith, is-list.distinct (tag_at k h) (subst (TagOf names (suc j)) f (tag_at j (omega arith)))))

  line-good : (k : ℕ) → k < length names → Yes (good_line (map ended-line names) k (ended-line (get_or names k [])))
  unfolding good_line
  line-good k h =
      let name = get_or names k [] in
      let t = tag_at k h in
      let last = get_or_at name line_feed [] 0 (length (ended-line name) - 1) (omega (arith, length-append name (line_feed ∷ []))) in
      rw (bare-line name)
      (and_yes (lt-ltb k 64 (omega (arith, is-list.few)))
      (and_yes (le-leb (length name) 24 (is-list.short t).1)
      (and_yes (eqb_yes last) (and_yes (is-list.named t) (eqb_yes (name_new k h))))))

  pub names-checked : names_of (list_bytes names) ≡ passes (length names)
  names-checked =
      let all = map ended-line names in
      let many = length-map names ended-line in
      by_lines-checked (list_bytes names) (rw lines_are (omega (arith, is-list.some)))
      ∙ rw lines_are (good_pass all 0 0 all
      (λ j h. let k : j < length names = omega arith in rw (map_at ended-line names j k, zero-add j) (line-good j k))
      ∙ ap passes (zero-add (length all) ∙ many))

  names_back : names_in (list_bytes names) ≡ names
  unfolding names_in
  names_back = ap (map bare) lines_are ∙ bare-lines names

  -- Its order numbers the tags: the name of tag a is the a-th name, and a name has the tag a exactly when it is the a-th.
  pub tag_name : {a : ℕ} {name : List ℕ} → TagOf names a name → name_of (list_bytes names) a ≡ name
  tag_name {a} {name} t = (name_in (list_bytes names) (length names) names-checked (subst (λ ns. TagOf ns a name) (sym names_back) t)).1

  pub tag_numbers : (a : ℕ) (name : List ℕ) → TagOf names a name ↔ ((1 ≤ a) × (tag_of (list_bytes names) name ≡ a))
  tag_numbers a name = (
    λ t. (t.some, ap (tag_of list) (sym (tag_name t)) ∙ tag_of_name list (length names) names-checked a t.some t.listed),
    λ (h, e).
        let listed : tag_of list name ≢ 0 = λ z. omega arith in
        let few : a ≤ length names = omega (arith, tag_few list (length names) names-checked name listed) in
        let here : TagOf names a (get_or names (a - 1) []) = record { some = h; listed = few; name_is = refl } in
        record {
          some = h;
          listed = few;
          name_is = sym (tag_name here) ∙ ap (name_of list) (sym e) ∙ name_of_tag list (length names) names-checked name listed;
        },
  )
    where
      list : List ℕ
      list = list_bytes names

-- A name list passes exactly when it is names, each followed by byte 10, that keep the rules of a name list.
pub names_pass : (list : List ℕ) (g : ℕ)
    → (names_of list ≡ passes g) ↔ ((names : List (List ℕ)) × (list ≡ list_bytes names) × NameList names × (length names ≡ g))
names_pass list g = (
  λ e. (names_in list, sym (passed-bytes list g e), passed-names list g e, counted list g e),
  λ (names, e, is-list, n). ap names_of e ∙ names-checked names is-list ∙ ap passes n,
)

-- The names of a list are unique.
pub names_unique : (names others : List (List ℕ)) → NameList names → NameList others → list_bytes names ≡ list_bytes others → names ≡ others
names_unique names others h k e = sym (names_back names h) ∙ ap names_in e ∙ names_back others k
