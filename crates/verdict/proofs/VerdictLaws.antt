-- What formcheck says at each of its checks, by the answers of the calls that make them.
use mathlib.Core.Path.{◌≡◌, refl, sym, ap, ◌∙◌}
use mathlib.Core.Logic.{◌≢◌}
use mathlib.Core.List.{List, ◌++◌}
use Prim.Native.Nat.{ℕ, ◌*◌, ◌≤◌}
use native.Mathlib.Omega.{arith}
use lib.ListN.{length, get_or, take, drop}
use lib.Seq.{take_at}
use borrow.Author.Tests.{ne_eqb}
use Rattle.std.specs.Prelude.{Ok, Err}
use Rattle.model.specs.declared.Refusal.{Refusal}
use Rattle.model.specs.Answers.{Answer, refusal, said_refusal, said, Checked, passes, refuses, ◌>>=◌, ◌>>◌, require, room_for, buffer_after}
use Rattle.model.specs.Tree.{Document, sizeD, words, wordsD}
use Rattle.model.specs.Sheet.{Sheet, sheet_of, sheet_words, set_words, file_words}
use Rattle.model.specs.Names.{names_of}
use Rattle.model.specs.Text.{form_of}
use Rattle.model.specs.Calls.{names_said, read, read_said, read_tree, from_file, from_file_said, from_file_sheet, verdict_of, judge_said}
use Rattle.model.specs.Calls.{formcheck}
use Rattle.model.proofs.CheckLaws.{refuses≢passes, passes_inj, bind_inv, bind_passes, then_inv, then_passes}
use Rattle.model.proofs.SheetCode.{sheet_passes}
use Rattle.model.proofs.ReadGood.{read-good}
use Rattle.model.proofs.RoundTrip.{one_size, one_words, room_passes}
use Rattle.model.proofs.Formcheck.{judged}
use Rattle.model.proofs.Answered as answered
use Rattle.model.specs.Index.{passed, sheet_in, Passes}
use Rattle.model.specs.Demands.{Presents}

-- ---- a buffer with enough room refuses nothing

-- where all that follows a check passes, a refusal is that check's
first_refuses : {A B : Type 0} (c : Checked A) (f : A → Checked B) {n i : ℕ} → ((a : A) → c ≡ passes a → (b : B) × (f a ≡ passes b))
    → (c >>= f) ≡ refuses n i → c ≡ refuses n i
unfolding ◌>>=◌
first_refuses (passes a) f h e = let (b, p) = h a refl in absurd (refuses≢passes (sym e ∙ p))
first_refuses (refuses m j) f h e = cc

-- the words of a file, where the buffer has room for any sheet
file-refused : (file : List ℕ) {n i : ℕ} (room : ℕ) → 16384 ≤ room → from_file file room ≡ refuses n i → sheet_of
    (file_words file) ≡ refuses n i
unfolding from_file
file-refused file room large e =
    first_refuses (sheet_of (file_words file)) _
    (λ t p.
    let (w, ranges) = (sheet_passes (file_words file) t).0 p in
    (file_words file, then_passes _ (room_passes (length (file_words file)) room (omega (arith, ranges.few_words, ap length w)))))
    e

module _ (list s : List ℕ) {g : ℕ} (names : names_of list ≡ passes g) where
  -- what is read has no more nodes than a tree may have
  few-nodes : {d : Document} → form_of list s ≡ passes d → sizeD d ≤ 4096
  few-nodes {d} reads = let (e, one, over, _, _) = read-good list s g d names reads in omega (arith, over.few, ap sizeD one, one_size e)

  -- the tree of a text, where the buffer has room for any tree
  read-refused : {n i : ℕ} (room : ℕ) → 16384 ≤ room → read list s room ≡ refuses n i → form_of list s ≡ refuses n i
  unfolding read
  read-refused room large e =
      first_refuses (form_of list s) _ (λ d p. (d, then_passes _ (room_passes (4 * sizeD d) room (omega (arith, few-nodes p)))))
      (sym (bind_passes _ names) ∙ e)

  read_inv : (room : ℕ) {d : Document} → read list s room ≡ passes d → form_of list s ≡ passes d
  unfolding read
  read_inv room e =
      let (_, _, e₁) = bind_inv (names_of list) _ e in
      let (c, p, e₂) = bind_inv (form_of list s) _ e₁ in
      let (_, _, e₃) = then_inv (room_for (4 * sizeD c) room) _ e₂ in
      p ∙ e₃

-- ---- the first check that refuses decides

module _ (list file s : List ℕ) where
  at_names : {n i : ℕ} → names_of list ≡ refuses n i → refusal n i ≡ formcheck list file s
  unfolding formcheck verdict_of ◌>>=◌
  at_names e = rw e

  module _ {g : ℕ} (names : names_of list ≡ passes g) where
    at-sheet : {n i : ℕ} → sheet_of (file_words file) ≡ refuses n i → refusal n i ≡ formcheck list file s
    unfolding formcheck verdict_of ◌>>=◌
    at-sheet e = rw (names, e)

    module _ {t : Sheet} (ok : sheet_of (file_words file) ≡ passes t) where
      at_text : {n i : ℕ} → form_of list s ≡ refuses n i → refusal n i ≡ formcheck list file s
      unfolding formcheck verdict_of ◌>>=◌
      at_text e = rw (names, ok, e)

      module _ {d : Document} (reads : form_of list s ≡ passes d) where
        at-tags : g ≢ t.tags → refusal 20 t.tags ≡ formcheck list file s
        unfolding formcheck verdict_of ◌>>=◌ ◌>>◌ require
        at-tags h = rw (names, ok, reads, ne_eqb g t.tags h)

  -- ---- the calls' answers

  pub names-refused : {r : Answer} {x : Refusal} → said r ≡ names_said list → r ≡ Err x → said_refusal x ≡ formcheck list file s
  names-refused e c = let (n, i, p, f) = answered.names-refused list e c in f ∙ at_names p

  pub sheet-refused : {g : ℕ} → names_of list ≡ passes g → (buffer : List ℕ) → 16384 ≤ length buffer
      → {r : Answer} {x : Refusal} → said r ≡ from_file_said file buffer → r ≡ Err x → said_refusal x ≡ formcheck list file s
  unfolding from_file_said
  sheet-refused names buffer large e c =
      let (n, i, p, f) = answered.refused length (from_file file (length buffer)) e c in
      f ∙ at-sheet names (file-refused file (length buffer) large p)

-- a sheet that passes, at the front of the buffer that its file was read to
pub record SheetIn (file buffer : List ℕ) (n : ℕ) : Type 0 where
  pub front : take n buffer ≡ file_words file
  pub few : n ≤ 16384
  pub passes_there : Passes (take n buffer)

pub sheet-counted : (file buffer : List ℕ) {after : List ℕ} {r : Answer} {n : ℕ} → (said r ≡ from_file_said file buffer) ×
    (after ≡ from_file_sheet file buffer) → r ≡ Ok n
    → SheetIn file after n
unfolding from_file_said from_file_sheet from_file buffer_after passed
sheet-counted file buffer {after} {n = n} (e, ea) c =
    let room = length buffer in
    let (w, p, k) = answered.counted length (from_file file room) e c in
    let (t, ok, p₁) = bind_inv (sheet_of (file_words file)) _ p in
    let (_, _, p₂) = then_inv (room_for (length (file_words file)) room) _ p₁ in
    let same : file_words file ≡ w = passes_inj p₂ in
    let written : after ≡ w ++ drop (length w) buffer = ea ∙ ap (buffer_after buffer) p in
    let front : take n after ≡ file_words file = ap (take n) written ∙ take_at w _ n k ∙ sym same in
    let (coded, ranges) = (sheet_passes (file_words file) t).0 ok in
    record {
      front = front;
      few = omega (arith, ranges.few_words, ap length coded, ap length same);
      passes_there = record { as_sheet = rw (front, ok) };
    }

-- the words of a sheet that passes: enough of them to say how many tags it has
pub sheet_header : {sheet : List ℕ} → Passes sheet → (6 ≤ length sheet) × (get_or sheet 4 0 ≡ (sheet_in sheet).tags)
unfolding sheet_words set_words
sheet_header {sheet} ok =
    let (w, _) = (sheet_passes sheet (sheet_in sheet)).0 ok.as_sheet in
    (omega (arith, ap length w), ap (λ (l : List ℕ). get_or l 4 0) w)

-- a tree that was read, at the front of its buffer
pub record TreeIn (list s buffer : List ℕ) (n : ℕ) : Type 0 where
  pub document : Document
  pub reads : form_of list s ≡ passes document
  pub nodes : sizeD document ≡ n
  pub few : n ≤ 4096
  pub front : take (n * 4) buffer ≡ wordsD document

module _ (list s : List ℕ) {g : ℕ} (names : names_of list ≡ passes g) where
  pub tree_counted : (tree : List ℕ) {after : List ℕ} {r : Answer} {n : ℕ} → (said r ≡ read_said list s tree) ×
      (after ≡ read_tree list s tree) → r ≡ Ok n → TreeIn list s after n
  tree_counted tree {after} {n = n} (e, ea) c =
      let (d, p, nodes, front) = answered.read-counted list s tree e ea c in
      let reads = read_inv list s names (length tree) p in
      record { document = d; reads = reads; nodes = nodes; few = omega (arith, few-nodes list s names reads); front = front }

  -- by the sheet's words, from whatever file they come
  module _ (file : List ℕ) {sheet : List ℕ} (ok : Passes sheet) (from : file_words file ≡ sheet) where
    as_sheet : sheet_of (file_words file) ≡ passes (sheet_in sheet)
    as_sheet = ap sheet_of from ∙ ok.as_sheet

    pub text_refused : (tree : List ℕ) → 16384 ≤ length tree → {r : Answer} {x : Refusal} → said r ≡ read_said list s tree → r ≡ Err x →
        said_refusal x ≡ formcheck list file s
    unfolding read_said
    text_refused tree large e c =
        let (n, i, p, f) = answered.refused sizeD (read list s (length tree)) e c in
        f ∙ at_text list file s names as_sheet (read-refused list s names (length tree) large p)

    -- beside the sheet's count of tags
    module _ {after : List ℕ} {n tags : ℕ} (t : TreeIn list s after n) (e : tags ≡ get_or sheet 4 0) where
      counted : tags ≡ (sheet_in sheet).tags
      counted = e ∙ (sheet_header ok).1

      pub tags_differ : g ≢ tags → refusal 20 tags ≡ formcheck list file s
      tags_differ h = rw counted (at-tags list file s names as_sheet t.reads (rw counted at h))

      pub form_judged : g ≡ tags → (states : List ℕ) → 4096 ≤ length states → judge_said sheet
          (take (n * 4) after) states ≡ formcheck list file s
      form_judged h states large =
          let (e, one, over, _, _) = read-good list s g t.document names t.reads in
          let presents : Presents list file s
          (sheet_in sheet) e = record { names = names ∙ ap passes (h ∙ counted); sheet = as_sheet; form = t.reads ∙ ap passes one } in
          let words_are : take (n * 4) after ≡ words e = t.front ∙ ap wordsD one ∙ one_words e in
          rw (words_are, ← from) (sym (judged presents states (omega (arith, over.few))))
