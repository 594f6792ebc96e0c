-- Round trip: a tree that is written is read again, and a text that is read is written and read again: the same words but for text starts.
use mathlib.Core.Path.{◌≡◌, refl, sym, ap, ap₂, ◌∙◌}
use mathlib.Core.Bool.{Bool, true, false, cond}
use mathlib.Core.List.{List, [], ◌∷◌, append-nil}
use Prim.Native.Nat.{ℕ, ◌*◌, ◌≤◌}
use native.Mathlib.Omega.{arith}
use lib.Dec.{leb}
use lib.ListN.{length}
use borrow.Author.Tests.{le-leb, leb-true}
use Rattle.model.specs.Answers.{passes, refuses, ◌>>=◌, ◌>>◌, require, room_for}
use Rattle.model.specs.Tree.{Element, Document, ε, ◌·◌, size, sizeD, nodes, words, wordsD, without_starts, tree_of}
use Rattle.model.specs.Names.{names_of}
use Rattle.model.specs.Text.{form_of}
use Rattle.model.specs.Written.{node_texts, written, texts_checked, short_enough}
use Rattle.model.specs.Calls.{read, write}
use Rattle.model.proofs.CheckLaws.{refuses≢passes, passes_inj, bind_inv, then_inv, required, require-is}
use Rattle.model.proofs.TreeLaws.{tree_passes, length-words}
use Rattle.model.proofs.NameLaws.{few-names}
use Rattle.model.proofs.Scan.{form-short}
use Rattle.model.proofs.Rewritten.{written_read}
use Rattle.model.proofs.ReadGood.{read-good}

-- ---- lengths

length_without : (l : List ℕ) → length (without_starts l) ≡ length l
unfolding without_starts
length_without [] = refl
length_without (a ∷ []) = refl
length_without (a ∷ b ∷ []) = refl
length_without (a ∷ b ∷ c ∷ []) = refl
length_without (a ∷ b ∷ c ∷ d ∷ l) = let h = length_without l in omega arith

-- a document of one element has its size and its words
pub one_size : (e : Element) → sizeD (e · ε) ≡ size e
unfolding sizeD
one_size e = omega arith

pub one_words : (e : Element) → wordsD (e · ε) ≡ words e
unfolding wordsD
one_words e = append-nil (words e)

-- ---- the checks of a call that passes

pub room_passes : (needed room : ℕ) → needed ≤ room → room_for needed room ≡ passes tt
unfolding room_for
room_passes needed room h = (require-is (leb needed room) 22 needed).1 (le-leb needed room h)

short_inv : (bytes : List ℕ) {b : List ℕ} → short_enough bytes ≡ passes b → (length bytes ≤ 65535) × (bytes ≡ b)
unfolding short_enough
short_inv bytes {b} h = go (leb (length bytes) 65535) refl h
  where
    go : (t : Bool) → leb (length bytes) 65535 ≡ t → cond t (passes bytes) (refuses 24 (length bytes)) ≡ passes b → (length bytes ≤ 65535) ×
        (bytes ≡ b)
    go true e h = (leb-true (length bytes) 65535 e, passes_inj h)
    go false e h = absurd (refuses≢passes h)

-- a call of write that passes: its list, its form, and its bytes
record Writes (list s tree bytes : List ℕ) : Type 0 where
  tags : ℕ
  form : Element
  names : names_of list ≡ passes tags
  tree_is : tree_of tags tree ≡ passes form
  texts : texts_checked s 0 (nodes form) ≡ passes tt
  short : length (written list s form) ≤ 65535
  bytes_are : written list s form ≡ bytes

write_inv : (list s tree : List ℕ) (room : ℕ) {bytes : List ℕ} → write list s tree room ≡ passes bytes → Writes list s tree bytes
unfolding write
write_inv list s tree room h =
    let (g, names, h₁) = bind_inv (names_of list) _ h in
    let (y, h₂) = (required (leb (length s) 65535) 1 65535 _).0 h₁ in
    let (e, tree_is, h₃) = bind_inv (tree_of g tree) _ h₂ in
    let (u, texts, h₄) = then_inv (texts_checked s 0 (nodes e)) _ h₃ in
    let (b, shorts, h₅) = bind_inv (short_enough (written list s e)) _ h₄ in
    let (v, fits, h₆) = then_inv (room_for (length b) room) _ h₅ in
    let (short, e₁) = short_inv (written list s e) shorts in
    record { tags = g; form = e; names = names; tree_is = tree_is; texts = texts; short = short; bytes_are = e₁ ∙ passes_inj h₆ }

writes_pass : (list s tree : List ℕ) (room g : ℕ) (e : Element) → names_of list ≡ passes g → length s ≤ 65535 → tree_of g tree ≡ passes e
    → texts_checked s 0 (nodes e) ≡ passes tt → length (written list s e) ≤ 65535 → length
    (written list s e) ≤ room → write list s tree room ≡ passes (written list s e)
unfolding write short_enough ◌>>=◌ ◌>>◌ require
writes_pass list s tree room g e names long tree_is texts short fits =
    rw (
      names,
      le-leb (length s) 65535 long,
      tree_is,
      texts,
      le-leb (length (written list s e)) 65535 short,
      room_passes (length (written list s e)) room fits,
    )

-- ---- written and read again

-- For every tree and text that pass 10 and 11 and are not over 24: what is written is read as the same words but for text starts, and
-- each text has the bytes that it had.
pub write_read : (list s tree : List ℕ) (room : ℕ) {bytes : List ℕ} → write list s tree room ≡ passes bytes
    → (again : ℕ) → length tree ≤ again → (d : Document) × (read list bytes again ≡ passes d)
    × (without_starts (wordsD d) ≡ without_starts tree) × (node_texts bytes (wordsD d) ≡ node_texts s tree)
unfolding read ◌>>=◌ ◌>>◌
write_read list s tree room {bytes} h again fits =
    let w = write_inv list s tree room h in
    let (t, over) = (tree_passes w.tags (few-names list w.tags w.names) tree w.form).0 w.tree_is in
    let (f, reads, again_is) = written_read list s w.tags w.form w.names over w.texts w.short in
    let long : length (words f) ≡ length tree = sym (length_without (words f)) ∙ ap length again_is.same-words ∙ length_without
    (words w.form) ∙ ap length (sym t) in
    let fits' : 4 * sizeD (f · ε) ≤ again = omega (arith, one_size f, length-words f) in
    let reads' : form_of list bytes ≡ passes (f · ε) = ap (form_of list) (sym w.bytes_are) ∙ reads in (
      f · ε,
      rw (w.names, reads', room_passes (4 * sizeD (f · ε)) again fits'),
      ap without_starts (one_words f) ∙ again_is.same-words ∙ ap without_starts (sym t),
      ap₂ node_texts (sym w.bytes_are) (one_words f) ∙ again_is.same-texts ∙ ap (node_texts s) (sym t),
    )

-- For every text and name list that read takes, the tree is refused by nothing, 24 included, where there is room for as many
-- bytes as the text has.
pub read-write : (list s : List ℕ) (room : ℕ) {d : Document} → read list s room ≡ passes d
    → (again : ℕ) → length s ≤ again → (bytes : List ℕ) × (write list s (wordsD d) again ≡ passes bytes)
unfolding read
read-write list s room {d} h again fits =
    let (g, names, h₁) = bind_inv (names_of list) _ h in
    let (c, reads, h₂) = bind_inv (form_of list s) _ h₁ in
    let (u, roomy, h₃) = then_inv (room_for (4 * sizeD c) room) _ h₂ in
    let (e, one, over, texts, short) = read-good list s g c names reads in
    let long : length s ≤ 65535 = form-short list s reads in
    let t : wordsD d ≡ words e = ap wordsD (sym (passes_inj h₃) ∙ one) ∙ one_words e in
    let tree_is : tree_of g (wordsD d) ≡ passes e = (tree_passes g (few-names list g names) (wordsD d) e).1 (t, over) in
    (written list s e, writes_pass list s (wordsD d) again g e names long tree_is texts (omega arith) (omega arith))

-- And read again it is the same words but for text starts, and each text has the bytes that it had.
pub read-write-read : (list s : List ℕ) (room : ℕ) {d : Document} → read list s room ≡ passes d → (again : ℕ) → length s ≤ again
    → (bytes : List ℕ) × (write list s (wordsD d) again ≡ passes bytes)
    × ((c : Document) × (read list bytes (length (wordsD d)) ≡ passes c) × (without_starts (wordsD c) ≡ without_starts (wordsD d))
    × (node_texts bytes (wordsD c) ≡ node_texts s (wordsD d)))
read-write-read list s room {d} h again fits =
    let (bytes, w) = read-write list s room h again fits in
    (bytes, w, write_read list s (wordsD d) again w (length (wordsD d)) (omega arith))
