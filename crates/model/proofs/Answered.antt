-- What an answer tells of the check that it answers for, and of the buffer that the call was lent.
use mathlib.Core.Path.{◌≡◌, refl, sym, ap, ◌∙◌}
use mathlib.Core.List.{List, ◌++◌}
use Prim.Native.Nat.{ℕ, ◌*◌}
use native.Mathlib.Omega.{arith}
use lib.ListN.{length, take, drop}
use lib.Seq.{take_at, drop_at}
use Rattle.std.specs.Prelude.{Ok, Err}
use Rattle.model.specs.Answers.{Answer, count, refusal, said, said_refusal, Checked, passes, refuses, ◌>>=◌, answer_of, buffer_after}
use Rattle.model.specs.Tree.{Element, Document, size, sizeD, wordsD, tree_of}
use Rattle.model.specs.Sheet.{Sheet, sheet_of}
use Rattle.model.specs.Names.{names_of}
use Rattle.model.specs.Calls.{names_said, read, read_said, read_tree, tree_said, sheet_said}
use Rattle.model.specs.declared.Refusal.{Refusal}
use Rattle.model.specs.declared.Refusal.TheVariants as refusals
use Rattle.model.specs.declared.Refusal.TheVariants.{LongText, ForbiddenByte, Syntax, UnknownName, OtherName, Depth, ManyNodes}
use Rattle.model.specs.declared.Refusal.TheVariants.{NameList, Tree, TextWords, TagCounts, JointLimit, ShortBuffer, TwoStates}
use Rattle.model.specs.declared.Refusal.TheVariants.{LongForm}
use Rattle.model.specs.Demands.{Promised}
use Rattle.model.proofs.SheetCode.{sheet_refuses}
use Rattle.model.proofs.TreeLaws.{length-wordsD, tree_refuses}

-- every case of `Refusal` says a number and a place
pub refusal_says : (x : Refusal) → (n i : ℕ) × (said_refusal x ≡ refusal n i)
unfolding said_refusal
refusal_says LongText = (_, _, refl)
refusal_says (ForbiddenByte i) = (_, _, refl)
refusal_says (Syntax i) = (_, _, refl)
refusal_says (UnknownName i) = (_, _, refl)
refusal_says (OtherName i) = (_, _, refl)
refusal_says (Depth i) = (_, _, refl)
refusal_says (ManyNodes i) = (_, _, refl)
refusal_says (NameList i) = (_, _, refl)
refusal_says (refusals.Sheet i) = (_, _, refl)
refusal_says (Tree i) = (_, _, refl)
refusal_says (TextWords i) = (_, _, refl)
refusal_says (TagCounts g) = (_, _, refl)
refusal_says (JointLimit k) = (_, _, refl)
refusal_says (ShortBuffer n) = (_, _, refl)
refusal_says (TwoStates i) = (_, _, refl)
refusal_says (LongForm n) = (_, _, refl)

-- a count is said of a check that passes, and a refusal of one that refuses
count-said : {A : Type 0} (f : A → ℕ) (c : Checked A) {n : ℕ} → count n ≡ answer_of f c → (a : A) × (c ≡ passes a) × (f a ≡ n)
unfolding answer_of
count-said f (passes a) h = (a, refl, cc)
count-said f (refuses m i) h = let z : ◌≡◌ {A = ℕ} 0 1 = cc in absurd (omega arith)

refusal_said : {A : Type 0} (f : A → ℕ) (c : Checked A) {m i : ℕ} → refusal m i ≡ answer_of f c → c ≡ refuses m i
unfolding answer_of
refusal_said f (passes a) h = let z : ◌≡◌ {A = ℕ} 0 1 = cc in absurd (omega arith)
refusal_said f (refuses m i) h = cc

-- the same of a call's answer r, by its case
pub counted : {A : Type 0} (f : A → ℕ) (c : Checked A) {r : Answer} {n : ℕ} → said r ≡ answer_of f c → r ≡ Ok n
    → (a : A) × (c ≡ passes a) × (f a ≡ n)
unfolding said
counted f c h e = count-said f c (sym (ap said e) ∙ h)

pub refused : {A : Type 0} (f : A → ℕ) (c : Checked A) {r : Answer} {x : Refusal} → said r ≡ answer_of f c → r ≡ Err x
    → (m i : ℕ) × (c ≡ refuses m i) × (said_refusal x ≡ refusal m i)
unfolding said
refused f c {x = x} h e =
    let (m, i, s) = refusal_says x in
    (m, i, refusal_said f c (sym s ∙ sym (ap said e) ∙ h), s)

-- a call that passes counts what it passed
pub counts : {A : Type 0} (f : A → ℕ) (c : Checked A) {a : A} (r : Answer) → said r ≡ answer_of f c → c ≡ passes a → r ≡ Ok (f a)
unfolding answer_of said
counts f c {a} (Ok n) h p = let same : n ≡ f a = cc in ap Ok same
counts f c (Err x) h p = let (m, i, says) = refusal_says x in let z : ◌≡◌ {A = ℕ} 0 1 = cc in absurd (omega arith)

module _ {c : Checked (List ℕ)} {out left : List ℕ} {r : Answer} (promise : Promised c out r left) where
  -- where n words are counted, the first n words left are those of the model's call …
  pub front_left : {n : ℕ} → r ≡ Ok n → c ≡ passes (take n left)
  unfolding buffer_after
  front_left {n} e =
      let (ws, passed, size) = counted length c promise.answer e in
      let front : take n left ≡ ws = ap (take n) (promise.buffer ∙ ap (buffer_after out) passed) ∙ take_at ws
      (drop (length ws) out) n size in
      passed ∙ ap passes (sym front)

  -- … and the words past them are as they were
  pub past_left : {n : ℕ} → r ≡ Ok n → drop n left ≡ drop n out
  unfolding buffer_after
  past_left {n} e =
      let (ws, passed, size) = counted length c promise.answer e in
      ap (drop n) (promise.buffer ∙ ap (buffer_after out) passed) ∙ drop_at ws (drop (length ws) out) n size ∙ ap (λ k. drop k out) size

  -- a refusal leaves every word as it was
  pub refused_left : {x : Refusal} → r ≡ Err x → left ≡ out
  unfolding buffer_after
  refused_left e =
      let (m, i, refusing, says) = refused length c promise.answer e in
      promise.buffer ∙ ap (buffer_after out) refusing

-- of a name list
module _ (list : List ℕ) {r : Answer} where
  pub names-counted : {n : ℕ} → said r ≡ names_said list → r ≡ Ok n → names_of list ≡ passes n
  unfolding names_said
  names-counted h e = let (g, p, q) = counted (λ g. g) (names_of list) h e in p ∙ ap passes q

  pub names-refused : {x : Refusal} → said r ≡ names_said list → r ≡ Err x → (m i : ℕ) × (names_of list ≡ refuses m i) ×
      (said_refusal x ≡ refusal m i)
  unfolding names_said
  names-refused h e = refused (λ g. g) (names_of list) h e

-- of a tree
module _ (g : ℕ) (t : List ℕ) {r : Answer} where
  pub tree_counted : {n : ℕ} → said r ≡ tree_said g t → r ≡ Ok n → (e : Element) × (tree_of g t ≡ passes e) × (size e ≡ n)
  unfolding tree_said
  tree_counted h e = counted size (tree_of g t) h e

  pub tree_refused : {x : Refusal} → said r ≡ tree_said g t → r ≡ Err x → (i : ℕ) × (tree_of g t ≡ refuses 10 i) ×
      (said_refusal x ≡ refusal 10 i)
  unfolding tree_said
  tree_refused h e =
      let (m, i, q, s) = refused size (tree_of g t) h e in
      let n = tree_refuses g t q in
      (i, rw n at q, rw n at s)

-- of a text: where n nodes are counted, their words stand at the front of the lent tree
pub read-counted : (list s tree : List ℕ) {left : List ℕ} {r : Answer} {n : ℕ} → said r ≡ read_said list s tree → left ≡ read_tree list s
    tree → r ≡ Ok n
    → (d : Document) × (read list s (length tree) ≡ passes d) × (sizeD d ≡ n) × (take (n * 4) left ≡ wordsD d)
unfolding read_said read_tree buffer_after ◌>>=◌
read-counted list s tree {left} {n = n} h b e =
    let (d, p, k) = counted sizeD (read list s (length tree)) h e in
    let whole : left ≡ wordsD d ++ drop (length (wordsD d)) tree = b ∙ ap (λ c. buffer_after tree (c >>= λ d. passes (wordsD d))) p in
    (d, p, k, ap (take (n * 4)) whole ∙ take_at (wordsD d) _ (n * 4) (omega (arith, length-wordsD d)))

-- of a sheet
module _ (ws : List ℕ) {r : Answer} where
  pub sheet-counted : {n : ℕ} → said r ≡ sheet_said ws → r ≡ Ok n → (n ≡ length ws) × ((s : Sheet) × (sheet_of ws ≡ passes s))
  unfolding sheet_said
  sheet-counted h e = let (s, p, q) = counted (λ s. length ws) (sheet_of ws) h e in (sym q, (s, p))

  pub sheet-refused : {x : Refusal} → said r ≡ sheet_said ws → r ≡ Err x → (i : ℕ) × (sheet_of ws ≡ refuses 9 i) ×
      (said_refusal x ≡ refusal 9 i)
  unfolding sheet_said
  sheet-refused h e =
      let (m, i, q, s) = refused (λ s. length ws) (sheet_of ws) h e in
      let n = sheet_refuses ws q in
      (i, rw n at q, rw n at s)
