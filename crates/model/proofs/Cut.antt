-- Files that are longer than any that passes: what formcheck says is decided by the first 1,601 bytes of the name list, the first
-- 16,385 words of the sheet's file and the first 65,536 bytes of the form. So a program may leave the rest unread.
use mathlib.Core.Path.{◌≡◌, refl, sym, ap, ◌∙◌}
use mathlib.Core.Bool.{Bool, true, false, cond}
use mathlib.Core.List.{List, [], ◌∷◌, ◌++◌, append_assoc, append-nil}
use Prim.Native.Nat.{ℕ, zero, suc, ◌+◌, ◌-◌, ◌*◌, ◌≤◌, ◌<◌}
use native.Mathlib.Omega.{arith}
use lib.Dec.{eqb, leb}
use lib.ListN.{length, get_or, take, drop, length-append, take-append-drop}
use lib.Seq.{take_all, take_at, take-take, length-take-le, append_snoc}
use borrow.Author.Tests.{leb-true, leb-false, lt-leb}
use Rattle.model.specs.Answers.{Checked, passes, refuses, ◌>>=◌, ◌>>◌, require}
use Rattle.model.specs.Sheet.{Sheet, Got, got, bad, sheet, ended, sheet_of, file_words}
use Rattle.model.specs.Bytes.{line_feed}
use Rattle.model.specs.Names.{lines, bare, good_line, lines_checked, names_of}
use Rattle.model.specs.Text.{form_of}
use Rattle.model.specs.Calls.{formcheck}
use Rattle.model.proofs.Tests.{never, Told, yea, nay, told}
use Rattle.model.proofs.CheckLaws.{refuses≢passes}
use Rattle.model.proofs.SheetCode.{sheet_passes}
use Rattle.model.proofs.NameLaws.{GoodLine, good-line-is}
use Rattle.model.proofs.ListLines.{Free, Lines, no_line, open_line, line, by_lines, ended-line, line_first, open_first, last_free}

-- a list within n, or one of which the first n are n
cut_cases : {A P : Type 0} (n : ℕ) (s : List A) → (take n s ≡ s → P) → (n < length s → length (take n s) ≡ n → P) → P
cut_cases {P = P} n s within beyond = go (told (leb (length s) n))
  where
    go : Told (leb (length s) n) → P
    go (yea t) = within (take_all n s (leb-true (length s) n t))
    go (nay t) = let h = leb-false (length s) n t in beyond h (length-take-le n s (omega arith))

-- ---- the text

pub text_cut : (list s : List ℕ) {n : ℕ} → 65536 ≤ n → form_of list (take n s) ≡ form_of list s
unfolding form_of ◌>>◌ require
text_cut list s {n} h =
    cut_cases n s (λ e. ap (form_of list) e)
    (λ l e. rw (lt-leb (length (take n s)) 65535 (omega arith), lt-leb (length s) 65535 (omega arith)))

-- ---- the sheet's file

words_cut : (q : ℕ) (b : List ℕ) → file_words (take (4 * q) b) ≡ take q (file_words b)
unfolding file_words
words_cut zero b = refl
words_cut (suc q) b = rw four (go b (words_cut q))
  where
    four : 4 * suc q ≡ suc (suc (suc (suc (4 * q))))
    four = omega arith

    none : take {A = ℕ} q [] ≡ []
    none = take_all q [] (omega arith)

    go : (b : List ℕ) → ((r : List ℕ) → file_words (take (4 * q) r) ≡ take q (file_words r)) → file_words
        (take (suc (suc (suc (suc (4 * q))))) b) ≡ take (suc q) (file_words b)
    go [] next = refl
    go (w ∷ []) next = rw none
    go (w ∷ x ∷ []) next = rw none
    go (w ∷ x ∷ y ∷ []) next = rw none
    go (w ∷ x ∷ y ∷ z ∷ r) next = rw (next r)

-- more words than any sheet has do not pass
too_long : (ws : List ℕ) (t : Sheet) → 16384 < length ws → sheet_of ws ≡ passes t → ⊥
too_long ws t h e = let (w, ranges) = (sheet_passes ws t).0 e in omega (arith, ap length w, ranges.few_words)

-- where neither of two lengths passes, the place is the same
ended_same : (a b : ℕ) (g : Got Sheet) → ((t : Sheet) → ended a g ≡ passes t → ⊥) →
    ((t : Sheet) → ended b g ≡ passes t → ⊥) → ended a g ≡ ended b g
unfolding ended
ended_same a b (bad k) h i = refl
ended_same a b (got t n) h i = go (eqb n a) (eqb n b) (h t) (i t)
  where
    go : (x y : Bool) → (cond x (passes t) (refuses 9 n) ≡ passes t → ⊥) → (cond y (passes t) (refuses 9 n) ≡ passes t → ⊥)
        → cond x (passes t) (refuses 9 n) ≡ cond y (passes t) (refuses 9 n)
    go true y h i = absurd (h refl)
    go false true h i = absurd (i refl)
    go false false h i = refl

sheet-words_cut : (ws : List ℕ) {q : ℕ} → 16385 ≤ q → sheet_of (take q ws) ≡ sheet_of ws
unfolding sheet_of
sheet-words_cut ws {q} h =
    cut_cases q ws (λ e. ap sheet_of e)
    (λ l e.
    let first : take 16384 (take q ws) ≡ take 16384 ws = take-take 16384 q ws (omega arith) in
    rw first
    (ended_same (length (take q ws)) (length ws) (sheet (take 16384 ws) 0)
    (λ t p. too_long (take q ws) t (omega arith) (rw first p))
    (λ t p. too_long ws t (omega arith) p)))

pub sheet_cut : (b : List ℕ) {q : ℕ} → 16385 ≤ q → sheet_of (file_words (take (4 * q) b)) ≡ sheet_of (file_words b)
sheet_cut b {q} h = ap sheet_of (words_cut q b) ∙ sheet-words_cut (file_words b) h

-- ---- the name list

-- ---- one line after the lines that are done

-- whether it is good does not depend on the lines after it
same_good : (done : List (List ℕ)) (k : ℕ) (l : List ℕ) → length done ≡ k → (x y : List (List ℕ)) → good_line (done ++ x) k l ≡ good_line
    (done ++ y) k l
unfolding good_line
same_good done k l e x y = rw (take_at done x k e, take_at done y k e)

on_bad : (done : List (List ℕ)) (k offset : ℕ) (l : List ℕ) (x : List (List ℕ)) → good_line (done ++ (l ∷ x)) k l ≡ false
    → lines_checked (done ++ (l ∷ x)) k offset (l ∷ x) ≡ refuses 8 offset
unfolding lines_checked
on_bad done k offset l x e = rw e

on-good : (done : List (List ℕ)) (k offset : ℕ) (l : List ℕ) (x : List (List ℕ)) → good_line (done ++ (l ∷ x)) k l ≡ true
    → lines_checked (done ++ (l ∷ x)) k offset (l ∷ x) ≡ lines_checked ((done ++ (l ∷ [])) ++ x) (suc k) (offset + length l) x
unfolding lines_checked
on-good done k offset l x e = rw (e, append_snoc done l x)

not_good : (k : ℕ) (l : List ℕ) (all : List (List ℕ)) → (GoodLine all k l → ⊥) → good_line all k l ≡ false
not_good k l all h = go (told (good_line all k l))
  where
    go : Told (good_line all k l) → good_line all k l ≡ false
    go (yea t) = absurd (h (good-line-is all k l t))
    go (nay t) = t

-- a line that lacks its line feed is bad
unended : (b : ℕ) (l : List ℕ) → Free (b ∷ l) → {all : List (List ℕ)} {k : ℕ} → GoodLine all k (b ∷ l) → ⊥
unended b l f g = let i : suc (length l) - 1 ≡ length l = omega arith in never (sym (last_free b l f) ∙ rw i at g.ended)

bare-length : (l : List ℕ) → length (bare l) ≡ length l - 1
bare-length l = length-take-le (length l - 1) l (omega arith)

-- ---- a list over 1,600 bytes is refused, and at the same place however it goes on

module _ (more : List ℕ) where
  -- the lines of u, with and without more bytes, behind k good lines
  record Refused (u : List ℕ) (done : List (List ℕ)) (k offset : ℕ) : Type 0 where
    place : ℕ
    alone : lines_checked (done ++ lines u) k offset (lines u) ≡ refuses 8 place
    longer : lines_checked (done ++ lines (u ++ more)) k offset (lines (u ++ more)) ≡ refuses 8 place

  -- behind any k good lines, which have at most 25 bytes each
  abbrev Long : List ℕ → Type 0
  Long u = (done : List (List ℕ)) (k offset : ℕ) → length done ≡ k → k ≤ 64 → 1600 < length u + 25 * k → Refused u done k offset

  open_refused : (b : ℕ) (l : List ℕ) → Free (b ∷ l) → Long (b ∷ l)
  unfolding lines
  open_refused b l f done k offset e few h =
      let w = get_or (lines more) 0 [] in
      let nil : (b ∷ l) ++ [] ≡ b ∷ l = append-nil (b ∷ l) in
      let alone : lines (b ∷ l) ≡ (b ∷ l) ∷ [] = ap lines (sym nil) ∙ open_first b l [] f ∙ ap (λ x. x ∷ []) nil in
      record {
        place = offset;
        alone = rw alone (on_bad done k offset (b ∷ l) [] (not_good k (b ∷ l) _ (unended b l f)));
        longer = rw (open_first b l more f)
            (on_bad done k offset ((b ∷ l) ++ w) _
            (not_good k ((b ∷ l) ++ w) _ (λ g. omega (arith, g.few, g.short, bare-length ((b ∷ l) ++ w), length-append (b ∷ l) w))));
      }

  line_refused : (l rest : List ℕ) → Free l → Long rest → Long (l ++ (line_feed ∷ rest))
  line_refused l rest f next done k offset e few h = go (told (good_line (done ++ (ended-line l ∷ lines rest)) k (ended-line l)))
    where
      alone : lines (l ++ (line_feed ∷ rest)) ≡ ended-line l ∷ lines rest
      alone = line_first l rest f

      longer : lines ((l ++ (line_feed ∷ rest)) ++ more) ≡ ended-line l ∷ lines (rest ++ more)
      longer = rw (append_assoc l (line_feed ∷ rest) more) (line_first l (rest ++ more) f)

      go : Told (good_line (done ++ (ended-line l ∷ lines rest)) k (ended-line l)) → Refused (l ++ (line_feed ∷ rest)) done k offset
      go (nay t) = record {
        place = offset;
        alone = rw alone (on_bad done k offset (ended-line l) _ t);
        longer = rw longer (on_bad done k offset (ended-line l) _ (same_good done k (ended-line l) e _ _ ∙ t));
      }
      go (yea t) =
          let g = good-line-is (done ++ (ended-line l ∷ lines rest)) k (ended-line l) t in
          let short : length l ≤ 24 = omega (arith, g.short, bare-length (ended-line l), length-append l (line_feed ∷ [])) in
          let left : 1600 < length rest + 25 * suc k = omega (arith, short, length-append l (line_feed ∷ rest)) in
          let count : length (done ++ (ended-line l ∷ [])) ≡ suc k = omega (arith, length-append done (ended-line l ∷ [])) in
          let r = next (done ++ (ended-line l ∷ [])) (suc k) (offset + length (ended-line l)) count (omega (arith, g.few)) left in
          record {
            place = r.place;
            alone = rw alone (on-good done k offset (ended-line l) _ t ∙ r.alone);
            longer = rw longer (on-good done k offset (ended-line l) _ (same_good done k (ended-line l) e _ _ ∙ t) ∙ r.longer);
          }

  refused : {u : List ℕ} → Lines u → Long u
  refused no_line done k offset e few h = absurd (omega arith)
  refused (open_line b l f) done k offset e few h = open_refused b l f done k offset e few h
  refused (line l rest f v) done k offset e few h = line_refused l rest f (λ d k i e few h. refused v d k i e few h) done k offset e few h

names-refused : (u more : List ℕ) → 1600 < length u → (i : ℕ) × (names_of u ≡ refuses 8 i) × (names_of (u ++ more) ≡ refuses 8 i)
unfolding names_of
names-refused [] more h = absurd (omega arith)
names-refused (b ∷ s) more h = let r = refused more (by_lines (b ∷ s)) [] 0 0 refl (omega arith) (omega arith) in
    (r.place, r.alone, r.longer)

pub names-short : (list : List ℕ) {g : ℕ} → names_of list ≡ passes g → length list ≤ 1600
names-short list e = go (told (leb (length list) 1600))
  where
    go : Told (leb (length list) 1600) → length list ≤ 1600
    go (yea t) = leb-true (length list) 1600 t
    go (nay t) = let (i, p, _) = names-refused list [] (leb-false (length list) 1600 t) in absurd (refuses≢passes (sym p ∙ e))

pub names_cut : (list : List ℕ) {n : ℕ} → 1601 ≤ n → names_of (take n list) ≡ names_of list
names_cut list {n} h =
    cut_cases n list (λ e. ap names_of e)
    (λ l e.
    let (i, alone, longer) = names-refused (take n list) (drop n list) (omega arith) in
    alone ∙ sym (rw (take-append-drop n list) at longer))

-- ---- formcheck

pub formcheck_cut : (list file s : List ℕ) {n q k : ℕ} → 1601 ≤ n → 16385 ≤ q → 65536 ≤ k
    → formcheck (take n list) (take (4 * q) file) (take k s) ≡ formcheck list file s
unfolding formcheck ◌>>=◌
formcheck_cut list file s {n} {q} {k} hn hq hk = go (names_of list) refl
  where
    go : (c : Checked ℕ) → names_of list ≡ c → formcheck (take n list) (take (4 * q) file) (take k s) ≡ formcheck list file s
    go (passes g) e =
        let whole : take n list ≡ list = take_all n list (omega (arith, names-short list e)) in
        rw (whole, sheet_cut file hq, text_cut list s hk)
    go (refuses m i) e = rw (names_cut list hn, e)
