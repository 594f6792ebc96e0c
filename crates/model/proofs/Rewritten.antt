-- What is written is read again: the pass over a written form gives the same form, with each text where its bytes now stand.
use mathlib.Core.Path.{◌≡◌, refl, sym, ap, ap₂, subst, ◌∙◌}
use mathlib.Core.Bool.{Bool, true, false, ◌&&◌}
use mathlib.Core.List.{List, [], ◌∷◌, ◌++◌, append_assoc, append-nil}
use Prim.Native.Nat.{ℕ, suc, ◌+◌, ◌-◌, ◌≤◌}
use native.Mathlib.Nat.{add-zero}
use native.Mathlib.Omega.{arith}
use lib.Dec.{eqb, leb}
use lib.ListN.{length, take, drop, length-append, length-drop}
use lib.Seq.{length-take-le, take_at, drop_at, drop-drop}
use borrow.Author.Tests.{leb-true}
use Rattle.model.specs.Answers.{passes}
use Rattle.model.specs.Tree.{Span, Element, text, tag, Document, ε, ◌·◌, size, sizeD, nodes, nodesD, words, wordsD, without_starts}
use Rattle.model.specs.Tree.{is_text, Keeps, KeepsD, Over}
use Rattle.model.specs.Bytes.{less_byte, greater_byte, kind_of_text}
use Rattle.model.specs.Names.{name_of, names_of}
use Rattle.model.specs.Text.{text_node, tag_node, form_of}
use Rattle.model.specs.Written.{source_bytes, node_texts, tagged, written, writtenD}
use Rattle.model.specs.Written.{trimmed_text, good_text, good_words, texts_checked}
use Rattle.model.specs.Grammar.{list_bytes, TagOf, NameList, no_white, end_bytes, ElementAt, empty, full, ContentAt, TagsAt, no_more}
use Rattle.model.specs.Grammar.{more, Form, form}
use Rattle.model.specs.Grammar as grammar
use Rattle.model.proofs.ListLaws.{every-cons, every_append}
use Rattle.model.proofs.Tests.{Yes, never, and_left, and_right, same}
use Rattle.model.proofs.DocumentLaws.{GoodNodes, texts-good}
use Rattle.model.proofs.NameLaws.{tag_of_name}
use Rattle.model.proofs.NameList.{names-checked, tag_numbers, names_pass}
use Rattle.model.proofs.FormScan.{form_taken}

-- ---- checked text words

-- a tag's words
no_bytes : (s : List ℕ) (a : ℕ) (w : Span) (d : Document) → Yes (good_words s (tag a w d)) → w.bytes ≡ 0
unfolding good_words
no_bytes s a w d t = same w.bytes 0 (and_right (eqb w.start 0) (eqb w.bytes 0) t)

-- a text's words, test by test
record GoodText (s : List ℕ) (k : ℕ) (w : Span) : Type 0 where
  long : length (source_bytes s w) ≡ w.bytes
  solid : Yes (trimmed_text (source_bytes s w))
  kind-is : kind_of_text (source_bytes s w) ≡ k

good_text_is : (s : List ℕ) (k : ℕ) (w : Span) → Yes (good_text s k w) → GoodText s k w
unfolding good_text source_bytes
good_text_is s k w t =
    let inside = leb (w.start + w.bytes) (length s) in
    let solid = trimmed_text (source_bytes s w) in
    let kind-is = eqb (kind_of_text (source_bytes s w)) k in
    let fits = leb-true (w.start + w.bytes) (length s) (and_left inside (solid && kind-is) t) in
    let more = and_right inside (solid && kind-is) t in
    record {
      long = length-take-le w.bytes (drop w.start s) (omega (arith, length-drop w.start s));
      solid = and_left solid kind-is more;
      kind-is = same (kind_of_text (source_bytes s w)) k (and_right solid kind-is more);
    }

module _ (list s : List ℕ) where
  -- where the content of a tag begins, if the tag is written from offset i on
  abbrev content-at : ℕ → ℕ → ℕ
  content-at i a = suc (i + suc (length (name_of list a)))

  -- an element, and a document, with each text where its bytes stand, if it is written from offset i on
  mutual
    placed : ℕ → Element → Element
    placed i (text k w) = text k (record { start = i; bytes = w.bytes })
    placed i (tag a w d) = tag_node a (placedD (content-at i a) d)

    placedD : ℕ → Document → Document
    placedD i ε = ε
    placedD i (e · d) = placed i e · placedD (i + length (written list s e)) d

  -- it is as large
  mutual
    unfolding size placed tag_node

    placed_size : (e : Element) (i : ℕ) → size (placed i e) ≡ size e
    placed_size (text k w) i = refl
    placed_size (tag a w d) i = ap suc (placed_sizeD d (content-at i a))

    placed_sizeD : (d : Document) (i : ℕ) → sizeD (placedD i d) ≡ sizeD d
    placed_sizeD ε i = refl
    placed_sizeD (e · d) i = ap₂ ◌+◌ (placed_size e i) (placed_sizeD d (i + length (written list s e)))

  -- it has the same words but for text starts
  mutual
    unfolding words nodes without_starts placed tag_node

    placed_words : (e : Element) (i : ℕ) → GoodNodes s (nodes e) → (r r' : List ℕ) → without_starts r ≡ without_starts r'
        → without_starts (words (placed i e) ++ r) ≡ without_starts (words e ++ r')
    placed_words (text k w) i t r r' h = rw h
    placed_words (tag a w d) i t r r' h =
        let (u, v) = every-cons (good_words s) (tag a w d) (nodesD d) t in
        rw (no_bytes s a w d u, placed_sizeD d (content-at i a), placed_wordsD d (content-at i a) v r r' h)

    placed_wordsD : (d : Document) (i : ℕ) → GoodNodes s (nodesD d) → (r r' : List ℕ) → without_starts r ≡ without_starts r'
        → without_starts (wordsD (placedD i d) ++ r) ≡ without_starts (wordsD d ++ r')
    placed_wordsD ε i t r r' h = h
    placed_wordsD (e · d) i t r r' h =
        let (u, v) = every_append (good_words s) (nodes e) (nodesD d) t in
        let j = i + length (written list s e) in
        rw (append_assoc (words (placed i e)) (wordsD (placedD j d)) r, append_assoc (words e) (wordsD d) r')
        (placed_words e i u (wordsD (placedD j d) ++ r) (wordsD d ++ r') (placed_wordsD d j v r r' h))

  -- the content of a tag stands where it begins, in a text t in which the tag is written from offset i on
  content-here : (a : ℕ) (d : Document) (i : ℕ) (t rest : List ℕ) → drop i t ≡ tagged (name_of list a) d (writtenD list s d) ++ rest
      → (after : List ℕ) × (drop (content-at i a) t ≡ writtenD list s d ++ after)
  unfolding tagged written
  content-here a ε i t rest at = (drop (content-at i a) t, refl)
  content-here a (e · d) i t rest at =
      let name = name_of list a in
      let begin = less_byte ∷ (name ++ (greater_byte ∷ [])) in
      let content = writtenD list s (e · d) in
      let after = end_bytes name [] ++ rest in
      let split : drop i t ≡ begin ++ (content ++ after) = at ∙ simp append_assoc in
      let place : content-at i a ≡ i + length begin = omega (arith, length-append name (greater_byte ∷ [])) in (
        after,
        ap (λ (k : ℕ). drop k t) place ∙ sym (drop-drop (length begin) i t) ∙ ap (drop (length begin)) split
            ∙ drop_at begin (content ++ after) (length begin) refl,
      )

  -- each node has the same bytes, in a text t in which the form is written from offset i on
  mutual
    unfolding words nodes written tagged placed tag_node good_words source_bytes node_texts

    placed_texts : (e : Element) (i : ℕ) → GoodNodes s (nodes e) → (t rest : List ℕ) → drop i t ≡ written list s e ++ rest
        → (r r' : List ℕ) → node_texts t r ≡ node_texts s r' → node_texts t (words (placed i e) ++ r) ≡ node_texts s (words e ++ r')
    placed_texts (text k w) i good t rest at r r' h =
        let g = good_text_is s k w (every-cons (good_words s) (text k w) [] good).0 in
        ap₂ (λ (b : List ℕ) (l : List (List ℕ)). b ∷ l) (ap (take w.bytes) at ∙ take_at (source_bytes s w) rest w.bytes g.long) h
    placed_texts (tag a w d) i good t rest at r r' h =
        let (u, v) = every-cons (good_words s) (tag a w d) (nodesD d) good in
        let (after, here) = content-here a d i t rest at in
        rw (no_bytes s a w d u) (ap (λ (l : List (List ℕ)). [] ∷ l) (placed_textsD d (content-at i a) v t after here r r' h))

    placed_textsD : (d : Document) (i : ℕ) → GoodNodes s (nodesD d) → (t rest : List ℕ) → drop i t ≡ writtenD list s d ++ rest
        → (r r' : List ℕ) → node_texts t r ≡ node_texts s r' → node_texts t (wordsD (placedD i d) ++ r) ≡ node_texts s (wordsD d ++ r')
    placed_textsD ε i good t rest at r r' h = h
    placed_textsD (e · d) i good t rest at r r' h =
        let (u, v) = every_append (good_words s) (nodes e) (nodesD d) good in
        let bytes = written list s e in
        let j = i + length bytes in
        let split : drop i t ≡ bytes ++ (writtenD list s d ++ rest) = at ∙ append_assoc bytes (writtenD list s d) rest in
        let here : drop j t ≡ writtenD list s d ++ rest
        = sym (drop-drop (length bytes) i t) ∙ ap (drop (length bytes)) split
        ∙ drop_at bytes (writtenD list s d ++ rest) (length bytes) refl in
        rw (append_assoc (words (placed i e)) (wordsD (placedD j d)) r, append_assoc (words e) (wordsD d) r')
        (placed_texts e i u t (writtenD list s d ++ rest) split (wordsD (placedD j d) ++ r) (wordsD d ++ r')
        (placed_textsD d j v t rest here r r' h))

  -- it keeps the same rules
  placed_text : (e : Element) (i : ℕ) → is_text (placed i e) ≡ is_text e
  unfolding is_text placed tag_node
  placed_text (text k w) i = refl
  placed_text (tag a w d) i = refl

  mutual
    unfolding placed tag_node

    placed_keeps : (e : Element) (g levels i : ℕ) → Keeps g levels e → Keeps g levels (placed i e)
    placed_keeps (text k w) g levels i keeps = keeps
    placed_keeps (tag a w d) g levels i keeps =
        (keeps.0, keeps.1, keeps.2, placed_keepsD d g (levels - 1) false (content-at i a) keeps.3)

    placed_keepsD : (d : Document) (g levels : ℕ) (b : Bool) (i : ℕ) → KeepsD g levels b d → KeepsD g levels b (placedD i d)
    placed_keepsD ε g levels b i keeps = tt
    placed_keepsD (e · d) g levels b i keeps =
        rw (placed_text e i)
        (keeps.0, placed_keeps e g levels i keeps.1, placed_keepsD d g levels (is_text e) (i + length (written list s e)) keeps.2)

-- f, with its texts in t, is e, with its texts in s, but for where texts start
pub record Rewritten (s t : List ℕ) (e f : Element) : Type 0 where
  pub same-words : without_starts (words f) ≡ without_starts (words e)
  pub same-texts : node_texts t (words f) ≡ node_texts s (words e)

-- ---- a written form is a form by the grammar

module _ (names : List (List ℕ)) (is-list : NameList names) (s : List ℕ) where
  abbrev list : List ℕ
  list = list_bytes names

  -- the name of a tag
  tag_is : (a : ℕ) → 1 ≤ a → a ≤ length names → TagOf names a (name_of list a)
  tag_is a h k = (tag_numbers names is-list a (name_of list a)).1 (h, tag_of_name list (length names) (names-checked names is-list) a h k)

  -- a tag with its content
  written_tag : (a : ℕ) (w : Span) (d : Document) (i : ℕ) → TagOf names a (name_of list a)
      → ContentAt names (content-at list s i a) (writtenD list s d) (placedD list s (content-at list s i a) d)
      → ElementAt names i (written list s (tag a w d)) (placed list s i (tag a w d))
  unfolding written tagged placed tag_node
  written_tag a w ε i t content = empty t no_white
  written_tag a w (e · d) i t content =
      let name = name_of list a in
      let bytes = writtenD list s (e · d) in
      let inner = placedD list s (content-at list s i a) (e · d) in
      subst (λ l. ElementAt names i (less_byte ∷ l) (tag_node a inner)) (append_assoc name (greater_byte ∷ []) (bytes ++ end_bytes name []))
      (full {i = i} t no_white
      (subst (λ (j : ℕ). ContentAt names j bytes inner) (omega (arith, length-append name (greater_byte ∷ []))) content) no_white)

  -- content after a text begins with a tag
  abbrev Follows : (after_text : Bool) → ℕ → List ℕ → Document → Type 0
  Follows true i r d = TagsAt names i r d
  Follows false i r d = ContentAt names i r d

  nothing_follows : (after_text : Bool) (i : ℕ) → Follows after_text i [] ε
  nothing_follows true i = no_more
  nothing_follows false i = grammar.blank no_white no_more

  -- an element, and what follows it
  element_follows : (e : Element) (after_text : Bool) (i : ℕ) (r : List ℕ) (d : Document) → (after_text && is_text e) ≡ false
      → (is_text e ≡ false → ElementAt names i (written list s e) (placed list s i e)) → GoodNodes s (nodes e)
      → Follows (is_text e) (i + length (written list s e)) r d → Follows after_text i (written list s e ++ r) (placed list s i e · d)
  unfolding is_text nodes good_words written placed text_node
  element_follows (text k w) true i r d apart element good rest = never (sym apart)
  element_follows (text k w) false i r d apart element good rest =
      let bytes = source_bytes s w in
      let g = good_text_is s k w (every-cons (good_words s) (text k w) [] good).0 in
      let here = add-zero i in
      let node-is : text_node (i + 0) bytes ≡ text k (record { start = i; bytes = w.bytes }) =
      λ j. text (g.kind-is j) (record { start = here j; bytes = g.long j }) in
      subst (λ e. ContentAt names i (bytes ++ r) (e · d)) node-is
      (grammar.text {i = i} bytes no_white g.solid no_white (subst (λ (j : ℕ). TagsAt names j r d) (omega arith) rest))
  element_follows (tag a w c) true i r d apart element good rest = more (element refl) rest
  element_follows (tag a w c) false i r d apart element good rest =
      let e = tag a w c in
      grammar.blank no_white
      (subst (λ (j : ℕ). TagsAt names j (written list s e ++ r) (placed list s i e · d)) (sym (add-zero i)) (more (element refl) rest))

  mutual
    unfolding is_text nodes written placed

    written_element : (e : Element) (levels i : ℕ) → is_text e ≡ false → Keeps (length names) levels e → GoodNodes s (nodes e)
        → ElementAt names i (written list s e) (placed list s i e)
    written_element (text k w) levels i a_tag keeps good = never (sym a_tag)
    written_element (tag a w d) levels i a_tag keeps good =
        written_tag a w d i (tag_is a keeps.0 keeps.1)
        (written-document d (levels - 1) false (content-at list s i a) keeps.3
        (every-cons (good_words s) (tag a w d) (nodesD d) good).1)

    written-document : (d : Document) (levels : ℕ) (after_text : Bool) (i : ℕ) → KeepsD (length names) levels after_text d
        → GoodNodes s (nodesD d) → Follows after_text i (writtenD list s d) (placedD list s i d)
    written-document ε levels after_text i keeps good = nothing_follows after_text i
    written-document (e · d) levels after_text i keeps good =
        let (u, v) = every_append (good_words s) (nodes e) (nodesD d) good in
        element_follows e after_text i (writtenD list s d) (placedD list s (i + length (written list s e)) d) keeps.0
        (λ t. written_element e levels i t keeps.1 u) u
        (written-document d levels (is_text e) (i + length (written list s e)) keeps.2 v)

  -- so it is read again, with the same words but for text starts, and the same bytes of texts
  written_again : (e : Element) → Over (length names) e → texts_checked s 0 (nodes e) ≡ passes tt → length (written list s e) ≤ 65535
      → (f : Element) × (form_of list (written list s e) ≡ passes (f · ε)) × Rewritten s (written list s e) e f
  unfolding node_texts
  written_again e over texts short =
      let f = placed list s 0 e in
      let good = (texts-good s 0 (nodes e)).0 texts in
      let is_form : Form names (written list s e) f =
      rw append-nil at (form no_white (written_element e 32 0 over.root over.keeps good) no_white) in
      let over' : Over (length names) f = record {
        root = placed_text list s e 0 ∙ over.root;
        keeps = placed_keeps list s e (length names) 32 0 over.keeps;
        few = omega (arith, placed_size list s e 0, over.few);
      } in (
        f,
        form_taken names is-list (record { is_form = is_form; keeps = over'; short = short }),
        record {
          same-words = simp append-nil at (placed_words list s e 0 good [] [] refl);
          same-texts = simp append-nil at
              (placed_texts list s e 0 good (written list s e) [] (sym (append-nil (written list s e))) [] [] refl);
        },
      )

-- A form that the writer writes is read again, with the same words but for text starts, and the same bytes of texts.
pub written_read : (list s : List ℕ) (g : ℕ) (e : Element) → names_of list ≡ passes g → Over g e → texts_checked s 0 (nodes e) ≡ passes tt
    → length (written list s e) ≤ 65535
    → (f : Element) × (form_of list (written list s e) ≡ passes (f · ε)) × Rewritten s (written list s e) e f
written_read list s g e checked over texts short =
    let (names, l, is-list, n) = (names_pass list g).0 checked in
    subst Again (sym l) (written_again names is-list s e (subst (λ (g : ℕ). Over g e) (sym n) over) texts) short
  where
    Again : List ℕ → Type 0
    Again list = length (written list s e) ≤ 65535
        → (f : Element) × (form_of list (written list s e) ≡ passes (f · ε)) × Rewritten s (written list s e) e f
