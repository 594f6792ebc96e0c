-- What the public calls say and leave in the lent buffer, by the checks on the way.
use mathlib.Core.Path.{◌≡◌, refl, sym, ap, ◌∙◌, subst}
use mathlib.Core.Logic.{◌≢◌}
use mathlib.Core.List.{List, ◌++◌}
use Prim.Native.Nat.{ℕ, ◌+◌, ◌≤◌, ◌<◌}
use native.Mathlib.Omega.{arith}
use lib.ListN.{length, get_or, drop}
use lib.Seq.{drop_at}
use borrow.Author.Tests as tests
use Rattle.std.specs.Prelude.{Ok, Err}
use Rattle.std.specs.Result.{MatchResult, IsErrAnd}
use Rattle.std.proofs.lemmas.Result.{err_from_is_err_and}
use Rattle.model.specs.declared.Refusal.{Refusal}
use Rattle.model.specs.declared.Refusal.TheVariants as refusals
use Rattle.model.specs.declared.Refusal.TheVariants.{LongText, ForbiddenByte, Syntax, UnknownName, OtherName, Depth, ManyNodes, NameList}
use Rattle.model.specs.declared.Refusal.TheVariants.{Tree, TextWords, TagCounts, JointLimit, ShortBuffer, TwoStates, LongForm}
use Rattle.model.specs.Answers.{Answer, Said, count, refusal, said, said_refusal, Checked, passes, refuses, ◌>>=◌, ◌>>◌, require, room_for}
use Rattle.model.specs.Answers.{answer_of, buffer_after}
use Rattle.model.specs.Sheet.{Sheet, sheet_words, sheet_of}
use Rattle.model.specs.Compose.{swapped, joint, within_limits}
use Rattle.model.specs.Index.{sheet_in, Passes, index_words, index_after, Indexed}
use Rattle.model.specs.Calls.{sheet_said, swap, swap_said, swap_out, in_second, joined, join, join_said, join_out}
use Rattle.model.proofs.SwapLaws.{swapped-words}
use Rattle.model.proofs.Answered.{sheet-counted, sheet-refused}
use Rattle.model.proofs.PassedLaws.{passes_in, coded, few_words, tags-word}
use Rattle.sheet.proofs.Over.{refused-place}
use Rattle.page.specs.Page.{Fills}
use Rattle.page.proofs.PageLaws.{counted, front}
use Rattle.compose.specs.Joins.{lent, limited, Gives, Limits}

-- ---- a call that lends words their room

-- the same check, said otherwise
pub gives_by : {out : List ℕ} {c d : Checked (List ℕ)} {x : Said} {y : List ℕ} → c ≡ d → Gives out d x y → Gives out c x y
gives_by {out} {x = x} {y = y} e = subst (λ b. Gives out b x y) (sym e)

module _ (out : List ℕ) {c : Checked (List ℕ)} where
  pub gives_refusal : {n i : ℕ} → c ≡ refuses n i → Gives out c (refusal n i) out
  unfolding answer_of buffer_after
  gives_refusal e = record { says = rw e; leaves = rw e }

  module _ (ws : List ℕ) (e : c ≡ lent ws (length out)) where
    pub gives-short : length out < length ws → Gives out c (refusal 22 (length ws)) out
    unfolding room_for require ◌>>◌
    gives-short h = gives_refusal (e ∙ rw (tests.lt-leb (length ws) (length out) h))

    pub gives-words : {y : List ℕ} {i : ℕ} → length ws ≤ 16384 → length ws ≤ length out → Fills out ws y i → Gives out c (count i) y
    unfolding room_for require ◌>>◌ answer_of buffer_after
    gives-words few h p =
        let f = tests.le-leb (length ws) (length out) h in
        let n = counted p in
        record { says = rw (e, f) (ap count (omega arith)); leaves = rw (e, f) (front p few h) }

-- ---- a sheet's check

-- by its answer
pub sheet-counts : (s : List ℕ) {r : Answer} {n : ℕ} → said r ≡ sheet_said s → r ≡ Ok n → Passes s × (n ≡ length s)
sheet-counts s e c = let (l, (t, p)) = sheet-counted s e c in ((passes_in p).0, l)

-- a sheet that passes has its index at the front of the buffer
pub sheet-indexed : (s old : List ℕ) {index : List ℕ} {r : Answer} {n : ℕ} → said r ≡ sheet_said s → index ≡ index_after old s → r
    ≡ Ok n → Indexed s index
unfolding index_after buffer_after ◌>>=◌
sheet-indexed s old {index} e ei c =
    let ok = (sheet-counts s e c).0 in
    let ws = index_words (sheet_in s) in
    let is : index ≡ ws ++ drop (length ws) old
    = ei ∙ ap (λ (x : Checked Sheet). buffer_after old (x >>= λ t. passes (index_words t))) ok.as_sheet in
    let rest : drop (length ws) index ≡ drop (length ws) old
    = ap (drop (length ws)) is ∙ drop_at ws (drop (length ws) old) (length ws) refl in
    record { sheet = ok; there = record { stands = is ∙ ap (λ (l : List ℕ). ws ++ l) (sym rest); ends = omega arith } }

-- ---- swap

module _ (sheet : List ℕ) (room : ℕ) where
  swap_refuses : {n i : ℕ} → sheet_of sheet ≡ refuses n i → swap sheet room ≡ refuses n i
  unfolding swap ◌>>=◌
  swap_refuses e = rw e

  swap_lends : {s : Sheet} → sheet_of sheet ≡ passes s → swap sheet room ≡ lent (sheet_words (swapped s)) room
  unfolding swap ◌>>=◌
  swap_lends e = rw e

module _ (sheet out : List ℕ) where
  abbrev Swaps : Said → List ℕ → Type 0
  Swaps x y = (x ≡ swap_said sheet out) × (y ≡ swap_out sheet out)

  swaps : {x : Said} {y : List ℕ} → Gives out (swap sheet (length out)) x y → Swaps x y
  unfolding swap_said swap_out
  swaps g = (g.says, g.leaves)

  pub swap-refused : {r : Answer} {x : Refusal} → said r ≡ sheet_said sheet → r ≡ Err x → Swaps (said_refusal x) out
  swap-refused e c = let (i, p, f) = sheet-refused sheet e c in rw f (swaps (gives_refusal out (swap_refuses sheet (length out) p)))

  -- n is the number of words of the sheet, and of its swapped sheet
  module _ {r : Answer} {n : ℕ} (e : said r ≡ sheet_said sheet) (c : r ≡ Ok n) where
    ok : Passes sheet
    ok = (sheet-counts sheet e c).0

    size : length (sheet_words (swapped (sheet_in sheet))) ≡ n
    size = omega (arith, (sheet-counts sheet e c).1, swapped-words (sheet_in sheet), ap length (coded ok))

    lends : swap sheet (length out) ≡ lent (sheet_words (swapped (sheet_in sheet))) (length out)
    lends = swap_lends sheet (length out) ok.as_sheet

    pub swap-short : length out < n → Swaps (refusal 22 n) out
    swap-short h = rw size at (swaps (gives-short out (sheet_words (swapped (sheet_in sheet))) lends (rw size h)))

    pub swap-written : {y : List ℕ} {i : ℕ} → n ≤ length out → Fills out (sheet_words (swapped (sheet_in sheet))) y i → Swaps (count i) y
    swap-written h w =
        swaps (gives-words out (sheet_words (swapped (sheet_in sheet))) lends
        (omega (arith, size, (sheet-counts sheet e c).1, (few_words ok).1)) (omega (arith, size)) w)

-- ---- join: its checks in their order

module _ (first second : List ℕ) (room : ℕ) where
  join_first : {n i : ℕ} → sheet_of first ≡ refuses n i → join first second room ≡ refuses n i
  unfolding join joined ◌>>=◌
  join_first e = rw e

  module _ {s : Sheet} (p : sheet_of first ≡ passes s) where
    join-second : {n i : ℕ} → sheet_of second ≡ refuses n i → join first second room ≡ refuses n (i + 20000)
    unfolding join joined in_second ◌>>=◌
    join-second e = rw (p, e)

    module _ {t : Sheet} (q : sheet_of second ≡ passes t) where
      join-tags : s.tags ≢ t.tags → join first second room ≡ refuses 20 t.tags
      unfolding join joined in_second ◌>>=◌ ◌>>◌ require
      join-tags h = rw (p, q, tests.ne_eqb s.tags t.tags h)

      join_checks : s.tags ≡ t.tags → join first second room ≡ limited (joint s t) room
      unfolding join joined in_second ◌>>=◌ ◌>>◌ require
      join_checks h = rw (p, q, tests.eq-eqb s.tags t.tags h) (go (within_limits (joint s t)))
        where
          go : (c : Checked (Unit {0})) → ((c >> passes (joint s t)) >>= λ j. lent (sheet_words j) room)
              ≡ c >> lent (sheet_words (joint s t)) room
          go (passes u) = refl
          go (refuses n i) = refl

module _ (first second out : List ℕ) where
  abbrev Joined : Said → List ℕ → Type 0
  Joined x y = (x ≡ join_said first second out) × (y ≡ join_out first second out)

  joins : {x : Said} {y : List ℕ} → Gives out (join first second (length out)) x y → Joined x y
  unfolding join_said join_out
  joins g = (g.says, g.leaves)

  pub first_refused : {r : Answer} {x : Refusal} → said r ≡ sheet_said first → r ≡ Err x → Joined (said_refusal x) out
  first_refused e c = let (i, p, f) = sheet-refused first e c in rw f (joins (gives_refusal out (join_first first second (length out) p)))

  module _ {r : Answer} {n : ℕ} (e : said r ≡ sheet_said first) (c : r ≡ Ok n) where
    h : Passes first
    h = (sheet-counts first e c).0

    pub second-refused : (z : Refusal) {q : Answer} {x : Refusal} → said q ≡ sheet_said second → q ≡ Err x
        → ((i : ℕ) → said_refusal x ≡ refusal 9 i → said_refusal z ≡ refusal 9 (i + 20000)) → Joined (said_refusal z) out
    second-refused z f d k =
        let (i, r, g) = sheet-refused second f d in
        rw (k i g) (joins (gives_refusal out (join-second first second (length out) h.as_sheet r)))

    module _ {q : Answer} {m : ℕ} (f : said q ≡ sheet_said second) (d : q ≡ Ok m) {a b : ℕ} (ea : a ≡ get_or first 4 0)
        (eb : b ≡ get_or second 4 0) where
      k : Passes second
      k = (sheet-counts second f d).0

      pub tags-refused : {g : ℕ} → g ≡ b → a ≢ b → Joined (refusal 20 g) out
      tags-refused eg d =
          let other : (sheet_in first).tags ≢ (sheet_in second).tags = λ e. d (ea ∙ tags-word h ∙ e ∙ sym (tags-word k) ∙ sym eb) in
          rw (eg ∙ eb ∙ tags-word k) (joins (gives_refusal out (join-tags first second (length out) h.as_sheet k.as_sheet other)))

      pub join_written : {x : Said} {y : List ℕ} → a ≡ b → Limits first second out x y → Joined x y
      join_written e w =
          let same = sym (tags-word h) ∙ sym ea ∙ e ∙ eb ∙ tags-word k in
          joins (gives_by (join_checks first second (length out) h.as_sheet k.as_sheet same) w)

-- ---- join: a refusal of T's words

-- refusal 9 is of a sheet
pub nine_sheet : (x : Refusal) {i : ℕ} → said_refusal x ≡ refusal 9 i → x ≡ refusals.Sheet i
unfolding said_refusal
nine_sheet LongText e = cc
nine_sheet (ForbiddenByte k) e = cc
nine_sheet (Syntax k) e = cc
nine_sheet (UnknownName k) e = cc
nine_sheet (OtherName k) e = cc
nine_sheet (Depth k) e = cc
nine_sheet (ManyNodes k) e = cc
nine_sheet (NameList k) e = cc
nine_sheet (refusals.Sheet k) e = cc
nine_sheet (Tree k) e = cc
nine_sheet (TextWords k) e = cc
nine_sheet (TagCounts k) e = cc
nine_sheet (JointLimit k) e = cc
nine_sheet (ShortBuffer k) e = cc
nine_sheet (TwoStates k) e = cc
nine_sheet (LongForm k) e = cc

-- at the place that the code finds
pub nine_place : {x : Refusal} {i j : ℕ} → said_refusal x ≡ refusal 9 i → x ≡ refusals.Sheet j → j ≡ i
unfolding said_refusal
nine_place e f = let g : refusal 9 _ ≡ refusal 9 _ = sym (ap said_refusal f) ∙ e in cc

-- and its place is at most the most words of a sheet
pub second-place : (ws : List ℕ) {r : Answer} {x : Refusal} → said r ≡ sheet_said ws → r ≡ Err x → (i : ℕ)
    × (said_refusal x ≡ refusal 9 i) × (i ≤ 16384)
second-place ws e c = let (i, p, f) = sheet-refused ws e c in (i, f, refused-place ws p)

-- x is a refusal of T's words and z the same of the call's
abbrev pub Moved : Refusal → Refusal → Type 0
Moved x z = (i : ℕ) → said_refusal x ≡ refusal 9 i → said_refusal z ≡ refusal 9 (i + 20000)

-- r is the check's answer on T's words, and q the same with a refusal moved
pub moved-back : (r : Answer) {q : Answer} → MatchResult r (λ n. q ≡ Ok n) (λ x. IsErrAnd q (Moved x)) → {z : Refusal} → q ≡ Err z
    → (x : Refusal) × (r ≡ Err x) × Moved x z
moved-back (Ok n) h e = let z : ◌≡◌ {A = ℕ} 0 1 = cc in absurd (omega arith)
moved-back (Err x) {q} h e = let (y, f, m) = err_from_is_err_and q h in let same : y ≡ _ = cc in (x, refl, subst (Moved x) same m)

pub passed-back : (r : Answer) {q : Answer} → MatchResult r (λ n. q ≡ Ok n) (λ x. IsErrAnd q (Moved x)) → {n : ℕ} → q ≡ Ok n → r ≡ Ok n
passed-back (Ok m) h e = sym h ∙ e
passed-back (Err x) {q} h e = let (y, f, m) = err_from_is_err_and q h in let z : ◌≡◌ {A = ℕ} 0 1 = cc in absurd (omega arith)
