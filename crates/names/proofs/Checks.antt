-- The check of a name list, line by line.
use mathlib.Core.Path.{◌≡◌, refl, sym, ap, ◌∙◌}
use mathlib.Core.Logic.{◌≢◌}
use mathlib.Core.Bool.{Bool, true, false, cond, ◌&&◌}
use mathlib.Core.List.{List, [], ◌∷◌}
use Prim.Native.Nat.{ℕ, zero, suc, ◌+◌, ◌-◌, ◌≤◌, ◌<◌}
use native.Mathlib.Numerals.{add-one}
use native.Mathlib.Omega.{arith}
use native.Mathlib.Decide.{ℕ_discrete}
use lib.Dec.{eqb, leb}
use lib.ListN.{length, get_or, take, drop, drop_of_length-le}
use lib.Seq.{drop-cons, length-take-le, get_or-take}
use borrow.Author.Tests.{lt-ltb, le-ltb, eq-eqb, ne_eqb}
use Rattle.model.specs.Answers.{Checked, passes, refuses, said, said_refusal, answer_of}
use Rattle.std.specs.Prelude.{Ok, Err, Option, is_some}
use Rattle.model.specs.declared.Refusal.TheVariants.{NameList}
use Rattle.model.specs.Bytes.{is_name, same_bytes}
use Rattle.model.specs.Calls.{names_said}
use Rattle.model.specs.Names.{lines, bare, name_of, number_from, good_line, lines_checked, names_of}
use Rattle.model.proofs.Tests.{never, eqb_like}
use Rattle.model.proofs.NameLaws.{same-bytes_refl, number_at}
use Rattle.offsets.specs.Lines.{line, start_of, line_count, Indexed}
use Rattle.offsets.proofs.LineLaws.{Begins, start-next, begins-some, begins_none, begins-at}
use Rattle.offsets.proofs.IndexLaws.{indexed-line}
use Rattle.tags.specs.declared.Table.{Table}
use Rattle.tags.specs.Tables.{name_by, first_of, bucket, along, linked, tag_or_none, TableOf}
use Rattle.tags.proofs.TagLaws.{name_is}
use Rattle.tags.proofs.ChainLaws.{Found, found}
use Rattle.tags.proofs.TableLaws.{table_more}
use Rattle.name_line.specs.Named.{named_line}

-- ---- whether a tag is told

some_tag : (r : ℕ) → is_some (tag_or_none r) ≡ true → r ≢ 0
some_tag zero e = never e
some_tag (suc r) e = λ z. absurd (omega arith)

no_tag : (r : ℕ) → is_some (tag_or_none r) ≡ false → r ≡ 0
no_tag zero e = refl
no_tag (suc r) e = never (sym e)

-- ---- a line

-- a name that a line holds has a number among the lines
number-some : (k : ℕ) (name : List ℕ) (ls : List (List ℕ)) (j : ℕ) → j < length ls → bare
    (get_or ls j []) ≡ name → number_from k name ls ≢ 0
unfolding number_from
number-some k name [] j h e = absurd (omega arith)
number-some k name (l ∷ ls) zero h e = rw (e, same-bytes_refl name) (λ z. absurd (omega arith))
number-some k name (l ∷ ls) (suc j) h e = by (same_bytes (bare l) name) (number-some (suc k) name ls j (omega arith) e)
  where
    by : (b : Bool) → number_from (suc k) name ls ≢ 0 → cond b (suc k) (number_from (suc k) name ls) ≢ 0
    by true ih = λ z. absurd (omega arith)
    by false ih = ih

-- a line among the first k holds a name where a tag of it was found
module _ {list name : List ℕ} {k r : ℕ} (h : k ≤ length (lines list)) (f : Found list name k r) where
  first-lines : (j : ℕ) → j < k → get_or (take k (lines list)) j [] ≡ get_or (lines list) j []
  first-lines j i = get_or-take k (lines list) j [] i

  number_is : eqb (number_from 0 name (take k (lines list))) 0 ≡ eqb r 0
  unfolding name_of
  number_is = eqb_like (number_from 0 name (take k (lines list))) 0 r 0 unfound
      (λ z. unlisted z (ℕ_discrete (number_from 0 name (take k (lines list))) 0))
    where
      few : length (take k (lines list)) ≡ k
      few = length-take-le k (lines list) h

      unfound : number_from 0 name (take k (lines list)) ≡ 0 → r ≡ 0
      unfound z = by (ℕ_discrete r 0)
        where
          by : Dec (r ≡ 0) → r ≡ 0
          by (yes e) = e
          by (no n) = absurd (number-some 0 name (take k (lines list)) (r - 1) (omega (arith, f.few, few))
              (rw (first-lines (r - 1) (omega (arith, f.few))) (f.named n)) z)

      unlisted : r ≡ 0 → Dec (number_from 0 name (take k (lines list)) ≡ 0) → number_from 0 name (take k (lines list)) ≡ 0
      unlisted z (yes e) = e
      unlisted z (no n) =
          let (j, i, _, e) = number_at 0 name (take k (lines list)) n in
          let inside : j < k = omega (arith, few) in
          let m : suc j - 1 ≡ j = omega arith in
          absurd (f.none z (suc j) (omega arith) inside (rw (m, ← first-lines j inside) e))

regroup : (a b c d : Bool) → (a && (b && (c && d))) ≡ ((a && (b && c)) && d)
regroup true true c d = refl
regroup true false c d = refl
regroup false b c d = refl

-- `name` is the name on line k, by a table of the tags before
module _ {list : List ℕ} {table : Table} {k : ℕ} (made : TableOf list table k) (h : k < line_count list) {name : List ℕ}
    (named : name ≡ name_by list table (k + 1)) where
  own_name : name ≡ name_of list (k + 1)
  own_name = named ∙ name_is list table (k + 1) made.index (omega arith) (omega arith)

  name-there : bare (line list k) ≡ name
  unfolding name_of
  name-there = let m : k + 1 - 1 ≡ k = omega arith in sym (rw m at own_name)

  good-is : good_line (lines list) k (line list k) ≡ (named_line (line list k) && eqb (number_from 0 name (take k (lines list))) 0)
  unfolding good_line named_line
  good-is = rw (lt-ltb k 64 (omega arith), ← name-there)
      (regroup (leb (length (bare (line list k))) 24) (eqb (get_or (line list k) (length (line list k) - 1) 0) 10)
      (is_name (bare (line list k))) (eqb (number_from 0 (bare (line list k)) (take k (lines list))) 0))

  -- what is told of the line, and the table then
  abbrev Told : Bool → Table → Type 0
  Told good after = (good ≡ good_line (lines list) k (line list k)) × TableOf list after (cond good (k + 1) k)

  module _ {well : Bool} (asked : well ≡ named_line (take (get_or table.starts (k + 1) 0 - get_or table.starts k 0)
      (drop (get_or table.starts k 0) list))) where
    asked_line : well ≡ named_line (line list k)
    asked_line = asked ∙ ap named_line (indexed-line list table.starts made.index k h)

    pub told_unnamed : well ≡ false → Told false table
    told_unnamed e = (sym (good-is ∙ rw (sym asked_line ∙ e)), made)

    module _ (e : well ≡ true) {chain : ℕ} {same : Option ℕ} (is : chain ≡ bucket name) (small : chain < 64)
        (along-is : same ≡ tag_or_none (along list table name 64 (first_of table chain))) where
      abbrev r : ℕ
      r = along list table name 64 (first_of table chain)

      good_by : good_line (lines list) k (line list k) ≡ eqb r 0
      good_by = good-is ∙ rw (sym asked_line ∙ e, number_is (omega arith) (found made (omega arith) name is small refl))

      pub told_repeated : is_some same ≡ true → Told false table
      told_repeated n = (sym (good_by ∙ ne_eqb r 0 (some_tag r (rw along-is at n))), made)

      pub told_entered : is_some same ≡ false → {after : Table} → after ≡ linked table chain (k + 1) → Told true after
      told_entered z l =
          (sym (good_by ∙ eq-eqb r 0 (no_tag r (rw along-is at z))), table_more made (omega arith) (is ∙ ap bucket own_name) small l)

-- the table after a line that is told so
pub after_line : (list : List ℕ) (table : Table) (k : ℕ) {good b : Bool} → good ≡ b → TableOf list table (cond good (k + 1) k)
    → TableOf list table (cond b (k + 1) k)
after_line list table k e t = rw e at t

-- ---- line by line

-- the check from line k on
abbrev pub checked-from : List ℕ → ℕ → Checked ℕ
checked-from list k = lines_checked (lines list) k (start_of (lines list) k) (drop k (lines list))

pub check-first : (list : List ℕ) → length list ≢ 0 → names_of list ≡ checked-from list 0
unfolding names_of start_of
check-first [] h = absurd (h refl)
check-first (b ∷ s) h = refl

module _ (list : List ℕ) (k : ℕ) where
  module _ (more : k < length (lines list)) where
    pub check-good : good_line (lines list) k (line list k) ≡ true → checked-from list k ≡ checked-from list (k + 1)
    unfolding lines_checked
    check-good h = rw (drop-cons (lines list) k [] more, h, add-one, start-next (lines list) k more)

    check_bad : good_line (lines list) k (line list k) ≡ false → checked-from list k ≡ refuses 8 (start_of (lines list) k)
    unfolding lines_checked
    check_bad h = rw (drop-cons (lines list) k [] more, h)

    check-many : 64 ≤ k → checked-from list k ≡ refuses 8 (start_of (lines list) k)
    unfolding good_line
    check-many h = check_bad (rw (le-ltb k 64 h))

  check-end : length (lines list) ≤ k → checked-from list k ≡ passes k
  unfolding lines_checked
  check-end h = rw (drop_of_length-le (lines list) h)

-- ---- what the check says

pub said_none : (list : List ℕ) → length list ≡ 0 → said (Err (NameList 0)) ≡ names_said list
unfolding said said_refusal names_said names_of answer_of
said_none [] h = refl
said_none (b ∷ s) h = absurd (omega arith)

module _ (list starts : List ℕ) (index : Indexed list starts) (k : ℕ) (e : names_of list ≡ checked-from list k) where
  pub said_bad : k < line_count list → good_line (lines list) k (line list k) ≡ false → said
      (Err (NameList (get_or starts k 0))) ≡ names_said list
  unfolding said said_refusal names_said answer_of
  said_bad h b = rw (e, check_bad list k (omega arith) b, index.start k (omega arith))

  module _ (all : k ≡ line_count list) where
    at : Begins list k (get_or starts k 0)
    at = rw (index.start k (omega arith)) (begins-at list k (omega arith))

    pub said-many : get_or starts k 0 < length list → said (Err (NameList (get_or starts k 0))) ≡ names_said list
    unfolding said said_refusal names_said answer_of
    said-many h =
        let more = begins-some list k (get_or starts k 0) at h in
        rw (e, check-many list k more (omega arith), index.start k (omega arith))

    pub said-passed : length list ≤ get_or starts k 0 → said (Ok k) ≡ names_said list
    unfolding said names_said answer_of
    said-passed h = rw (e, check-end list k (begins_none list k (get_or starts k 0) at h))
