-- A tree passes exactly when its words are the nodes, in document order, of a form that keeps the rules; and every refusal is 10.
use mathlib.Core.Path.{◌≡◌, refl, sym, ap, ◌∙◌}
use mathlib.Core.Logic.{◌↔◌, ◌≢◌}
use mathlib.Core.Bool.{Bool, true, false, ◌&&◌, and-true, and-false}
use mathlib.Core.List.{List, [], ◌∷◌, ◌++◌, append_assoc, append-nil}
use Prim.Native.Nat.{ℕ, zero, suc, ◌+◌, ◌-◌, ◌*◌, ◌/◌, ◌%◌, ◌≤◌, ◌<◌}
use native.Mathlib.Nat.{add-zero}
use native.Mathlib.Omega.{arith}
use lib.Dec.{eqb, leb}
use lib.ListN.{length, get_or, drop, length-append, drop_of_length-le}
use lib.Seq.{drop-cons, get_or-drop, drop-drop, drop_at}
use Rattle.model.specs.Answers.{passes, refuses, ◌>>=◌, ◌>>◌, require}
use Rattle.model.specs.Tree.{Span, Element, text, tag, Document, ε, ◌·◌, size, sizeD, nodes, nodesD, node, words, wordsD, is_text}
use Rattle.model.specs.Tree.{Keeps, KeepsD, Over, symbol_at, size_at, span_at, text_symbol, tag_symbol, Seen, at_end, a_text}
use Rattle.model.specs.Tree.{an_element, breaks, look, children_by, children, tree_of}
use Rattle.model.proofs.Tests.{Yes, never, and_yes, and_left, and_right, same, eqb_yes, between_yes, between_inv}
use Rattle.model.proofs.CheckLaws.{refuses≢passes, passes_inj, bind_inv, required, RefusesBy, bind_refuses, require_refuses}
use Rattle.model.proofs.CheckLaws.{refuses_by}
use Rattle.model.proofs.TreeView.{text_symbol-is, tag_symbol-is, tag_no_text, View, ended, text_here, element_here, broken_here}
use Rattle.model.proofs.TreeView.{view, look-end, look_text, look_element, Reading, children-seen}

-- ---- lengths

-- as many nodes as the size says, with four words each
mutual
  unfolding nodes size

  pub length-nodes : (e : Element) → length (nodes e) ≡ size e
  length-nodes (text k w) = refl
  length-nodes (tag a w d) = ap suc (length-nodesD d)

  pub length-nodesD : (d : Document) → length (nodesD d) ≡ sizeD d
  length-nodesD ε = refl
  length-nodesD (e · d) = omega (arith, length-append (nodes e) (nodesD d), length-nodes e, length-nodesD d)

mutual
  unfolding words size

  pub length-words : (e : Element) → length (words e) ≡ 4 * size e
  length-words (text k w) = refl
  length-words (tag a w d) = omega (arith, length-wordsD d)

  pub length-wordsD : (d : Document) → length (wordsD d) ≡ 4 * sizeD d
  length-wordsD ε = refl
  length-wordsD (e · d) = omega (arith, length-append (words e) (wordsD d), length-words e, length-wordsD d)

-- ---- the words of node i

next_word : (t : List ℕ) (j k : ℕ) → j < length t → k ≡ suc j → drop j t ≡ get_or t j 0 ∷ drop k t
next_word t j k h e = rw e (drop-cons t j 0 h)

-- node i, and what comes after it
node_at : (t : List ℕ) (i : ℕ) → 4 * (i + 1) ≤ length t → drop (4 * i) t ≡ node (symbol_at t i) (size_at t i) (span_at t i) ++ drop
    (4 * (i + 1)) t
node_at t i h =
    next_word t (4 * i) (4 * i + 1) (omega arith) (omega arith)
    ∙ ap (λ (l : List ℕ). get_or t (4 * i) 0 ∷ l) (next_word t (4 * i + 1) (4 * i + 2) (omega arith) (omega arith)
    ∙ ap (λ (l : List ℕ). get_or t (4 * i + 1) 0 ∷ l) (next_word t (4 * i + 2) (4 * i + 3) (omega arith) (omega arith)
    ∙ ap (λ (l : List ℕ). get_or t (4 * i + 2) 0 ∷ l) (next_word t (4 * i + 3) (4 * (i + 1)) (omega arith) (omega arith))))

-- where the words of a node stand at node i, they are node i
record NodeIs (t : List ℕ) (i s z : ℕ) (w : Span) (l : List ℕ) : Type 0 where
  symbol-is : symbol_at t i ≡ s
  size_is : size_at t i ≡ z
  span_is : span_at t i ≡ w
  after_is : drop (4 * (i + 1)) t ≡ l

node-is : (t : List ℕ) (i s z : ℕ) (w : Span) (l : List ℕ) → drop (4 * i) t ≡ node s z w ++ l → NodeIs t i s z w l
node-is t i s z w l h = record {
  symbol-is = ap (λ (j : ℕ). get_or t j 0) (sym (add-zero (4 * i))) ∙ word 0;
  size_is = word 1;
  span_is = λ k. record { start = word 2 k; bytes = word 3 k };
  after_is = ap (λ (j : ℕ). drop j t) behind ∙ sym (drop-drop 4 (4 * i) t) ∙ ap (λ (m : List ℕ). drop 4 m) h;
}
  where
    word : (k : ℕ) → get_or t (4 * i + k) 0 ≡ get_or (node s z w ++ l) k 0
    word k = sym (get_or-drop (4 * i) t k 0) ∙ ap (λ (m : List ℕ). get_or m k 0) h

    behind : 4 * (i + 1) ≡ 4 * i + 4
    behind = omega arith

-- ---- from words to a document

module _ (t : List ℕ) (g : ℕ) where
  -- document d stands from node i up to node `end`, and keeps the rules
  record Stands (levels i end : ℕ) (after_text : Bool) (d : Document) : Type 0 where
    count : i + sizeD d ≡ end
    keeps : KeepsD g levels after_text d
    encoded : drop (4 * i) t ≡ wordsD d ++ drop (4 * end) t

  -- nothing, a text and an element stand where their words do, before what stands after them
  ε_stands : {levels i end : ℕ} {after_text : Bool} → i ≡ end → Stands levels i end after_text ε
  unfolding sizeD wordsD
  ε_stands h = record { count = omega arith; keeps = tt; encoded = rw h }

  text_stands : {levels i end : ℕ} {after_text : Bool} {d : Document} → i < end → 4 * end ≤ length t
      → Yes (text_symbol (symbol_at t i)) → size_at t i ≡ 1 → after_text ≡ false
      → Stands levels (i + 1) end true d → Stands levels i end after_text (text (symbol_at t i - 64) (span_at t i) · d)
  unfolding size words is_text
  text_stands {i = i} h b y z p st =
      let (u, v) = (text_symbol-is (symbol_at t i)).0 y in
      let s : 64 + (symbol_at t i - 64) ≡ symbol_at t i = omega arith in
      record {
        count = omega (arith, st.count);
        keeps = (rw p, (omega arith, omega arith), st.keeps);
        encoded = cc
            (node_at t i (omega arith), st.encoded);
      }

  element_stands : {levels i next end : ℕ} {after_text : Bool} {c d : Document} → next ≡ i + size_at t i → i < next → next ≤ end → 4 * end ≤
      length t
      → Yes (tag_symbol g (symbol_at t i)) → 0 < levels
      → Stands (levels - 1) (i + 1) next false c → Stands levels next end false d → Stands levels i end after_text
      (tag (symbol_at t i) (span_at t i) c · d)
  unfolding size words is_text
  element_stands {i = i} {next} {end} {after_text} {c} {d} n lt le b y l inside st =
      let (u, v) = (tag_symbol-is g (symbol_at t i)).0 y in
      let s : size_at t i ≡ suc (sizeD c) = omega (arith, inside.count) in
      record {
        count = omega (arith, inside.count, st.count);
        keeps = (and-false after_text, (u, v, l, inside.keeps), st.keeps);
        encoded = cc (node_at t i (omega arith), inside.encoded, st.encoded, append_assoc (wordsD c) (wordsD d) (drop (4 * end) t));
      }

  -- what is read stands there, if what is read after and below it does
  seen-stands : (rest : Reading) (levels i end : ℕ) (after_text : Bool) (s : Seen) (d : Document)
      → View t g levels i end after_text s → i ≤ end → 4 * end ≤ length t
      → ((l j e : ℕ) (b : Bool) (c : Document) → i < j → j ≤ e → e ≤ end → rest l j e b ≡ passes c → Stands l j e b c)
      → children_by t rest levels i end s ≡ passes d → Stands levels i end after_text d
  unfolding children_by
  seen-stands rest levels i end after_text s d (ended h) a b r e = rw (← passes_inj e) (ε_stands (omega arith))
  seen-stands rest levels i end after_text s d (text_here lt y z p) a b r e =
      let (c, k, q) = bind_inv _ _ e in
      rw (← passes_inj q) (text_stands lt b y z p (r levels (i + 1) end true c (omega arith) (omega arith) (omega arith) k))
  seen-stands rest levels i end after_text s d (element_here n is lt le x y l) a b r e =
      let (c, k, f) = bind_inv _ _ e in
      let (c', k', q) = bind_inv _ _ f in
      rw (← passes_inj q)
      (element_stands is lt le b y l (r (levels - 1) (i + 1) n false c (omega arith) (omega arith) le k)
      (r levels n end false c' lt le (omega arith) k'))
  seen-stands rest levels i end after_text s d (broken_here _) a b r e = absurd (refuses≢passes e)

  stands : (steps levels i end : ℕ) (after_text : Bool) (d : Document) → end ≤ i + steps → i ≤ end → 4 * end ≤ length t
      → children t g steps levels i end after_text ≡ passes d → Stands levels i end after_text d
  unfolding children
  stands zero levels i end after_text d h a b e = rw (← passes_inj e) (ε_stands (omega arith))
  stands (suc steps) levels i end after_text d h a b e =
      seen-stands (children t g steps) levels i end after_text _ d (view t g levels i end after_text) a b
      (λ l j n p c lt le k. stands steps l j n p c (omega arith) le (omega arith)) e

-- children that pass fill the nodes up to `end`
pub children_fill : (t : List ℕ) (g levels i end : ℕ) (after_text : Bool) (d : Document) → i ≤ end → 4 * end ≤ length t
    → children t g (length t) levels i end after_text ≡ passes d → i + sizeD d ≡ end
children_fill t g levels i end after_text d a b e = (stands t g (length t) levels i end after_text d (omega arith) a b e).count

-- ---- from a document to its words

-- what follows an element's words
past_element : (t : List ℕ) (i : ℕ) (e : Element) (r : List ℕ) → drop (4 * i) t ≡ words e ++ r → drop (4 * (i + size e)) t ≡ r
past_element t i e r h =
    ap (λ (j : ℕ). drop j t) behind ∙ sym (drop-drop (4 * size e) (4 * i) t)
    ∙ ap (λ (m : List ℕ). drop (4 * size e) m) h ∙ drop_at (words e) r (4 * size e) (length-words e)
  where
    behind : 4 * (i + size e) ≡ 4 * i + 4 * size e
    behind = omega arith

-- the children, in as many steps as there are words
abbrev read : List ℕ → ℕ → Reading
read t g = children t g (length t)

-- what is read at a node, from the node's words and from what is read after and below it
module _ (t : List ℕ) (g levels i end : ℕ) (after_text : Bool) (fits : end ≤ length t) where
  read-end : end ≤ i → read t g levels i end after_text ≡ passes ε
  unfolding children_by
  read-end h = children-seen t g levels i end after_text fits (look-end t g levels i end after_text h)

  read_text : {k : ℕ} {w : Span} {r : List ℕ} {d : Document} → NodeIs t i (64 + k) 1 w r → 1 ≤ k → k ≤ 2 → i < end → after_text ≡ false
      → read t g levels (i + 1) end true ≡ passes d → read t g levels i end after_text ≡ passes (text k w · d)
  unfolding children_by ◌>>=◌
  read_text {k} m a b h p e =
      let y : Yes (text_symbol (symbol_at t i)) = rw m.symbol-is ((text_symbol-is (64 + k)).1 (omega arith)) in
      let s : 64 + k - 64 ≡ k = omega arith in
      children-seen t g levels i end after_text fits
      (look_text t g levels i end after_text h y m.size_is p) ∙ rw (e, m.symbol-is, s, m.span_is)

  read_tag : {a : ℕ} {w : Span} {r : List ℕ} {c d : Document} → NodeIs t i a
      (suc (sizeD c)) w r → g ≤ 64 → 1 ≤ a → a ≤ g → 0 < levels → i + suc (sizeD c) ≤ end
      → read t g (levels - 1) (i + 1) (i + suc (sizeD c)) false ≡ passes c → read t g levels (i + suc (sizeD c)) end false ≡ passes d
      → read t g levels i end after_text ≡ passes (tag a w c · d)
  unfolding children_by ◌>>=◌
  read_tag {a} m small u v l h e f =
      let y : Yes (tag_symbol g (symbol_at t i)) = rw m.symbol-is ((tag_symbol-is g a).1 (u, v)) in
      let z = m.size_is in
      children-seen t g levels i end after_text fits
      (look_element t g levels i end after_text (tag_no_text g (symbol_at t i) small y) y l (omega arith) (omega arith))
      ∙ rw (z, e, f, m.symbol-is, m.span_is)

module _ (t : List ℕ) (g : ℕ) (small : g ≤ 64) where
  -- What is read where the words of a document that keeps the rules stand is that document;
  -- where an element's words stand, it is that element before what is read after it.
  mutual
    unfolding size words is_text

    read_element : (e : Element) (levels i end : ℕ) (after_text : Bool) (r : List ℕ) (d : Document)
        → (after_text && is_text e) ≡ false → Keeps g levels e → i + size e ≤ end → end ≤ length t → drop (4 * i) t ≡ words e ++ r
        → read t g levels (i + size e) end (is_text e) ≡ passes d → read t g levels i end after_text ≡ passes (e · d)
    read_element (text k w) levels i end after_text r d apart keeps h fits at e =
        read_text t g levels i end after_text fits (node-is t i (64 + k) 1 w r at) keeps.0 keeps.1 (omega arith)
        (sym (and-true after_text) ∙ apart) e
    read_element (tag a w c) levels i end after_text r d apart keeps h fits at e =
        let m = node-is t i a (suc (sizeD c)) w (wordsD c ++ r) at in
        read_tag t g levels i end after_text fits m small keeps.0 keeps.1 keeps.2 h
        (read-document c (levels - 1) (i + 1) (i + suc (sizeD c)) false r keeps.3 (omega arith) (omega arith) m.after_is) e

    read-document : (d : Document) (levels i end : ℕ) (after_text : Bool) (r : List ℕ)
        → KeepsD g levels after_text d → i + sizeD d ≡ end → end ≤ length t → drop (4 * i) t ≡ wordsD d ++ r
        → read t g levels i end after_text ≡ passes d
    read-document ε levels i end after_text r keeps n fits at = read-end t g levels i end after_text fits (omega arith)
    read-document (e · d) levels i end after_text r keeps n fits at =
        let at_e : drop (4 * i) t ≡ words e ++ (wordsD d ++ r) = at ∙ append_assoc (words e) (wordsD d) r in
        read_element e levels i end after_text (wordsD d ++ r) d keeps.0 keeps.1 (omega arith) fits at_e
        (read-document d levels (i + size e) end (is_text e) r keeps.2 (omega arith) fits (past_element t i e (wordsD d ++ r) at_e))

-- ---- the tree

-- what is tested of the count of words n, and of node 0 with symbol s and size z
count_tests : (n : ℕ) → Yes (eqb (n % 4) 0 && (leb 1 (n / 4) && leb (n / 4) 4096)) ↔ (n % 4 ≡ 0) × (1 ≤ n / 4) × (n / 4 ≤ 4096)
count_tests n = (
  λ y.
      let (a, b) = between_inv 1 4096 (n / 4) (and_right (eqb (n % 4) 0) (leb 1 (n / 4) && leb (n / 4) 4096) y) in
      (same (n % 4) 0 (and_left (eqb (n % 4) 0) (leb 1 (n / 4) && leb (n / 4) 4096) y), a, b),
  λ h. and_yes (eqb_yes h.0) (between_yes 1 4096 (n / 4) h.1 h.2),
)

root_tests : (g s z n : ℕ) → Yes (tag_symbol g s && eqb z n) ↔ Yes (tag_symbol g s) × (z ≡ n)
root_tests g s z n = (
  λ y. (and_left (tag_symbol g s) (eqb z n) y, same z n (and_right (tag_symbol g s) (eqb z n) y)),
  λ h. and_yes h.0 (eqb_yes h.1),
)

module _ (g : ℕ) (t : List ℕ) where
  -- node 0 with what stands from node 1 on
  root-words : {n : ℕ} {d : Document} → length t ≡ 4 * n → 1 ≤ n → n ≤ 4096
      → Yes (tag_symbol g (symbol_at t 0)) → size_at t 0 ≡ n → Stands t g 31 1 n false d
      → (t ≡ words (tag (symbol_at t 0) (span_at t 0) d)) × Over g (tag (symbol_at t 0) (span_at t 0) d)
  unfolding size words is_text
  root-words {n} {d} l a b y z st =
      let (u, v) = (tag_symbol-is g (symbol_at t 0)).0 y in
      let s : size_at t 0 ≡ suc (sizeD d) = omega (arith, st.count) in
      let nothing_left : drop (4 * n) t ≡ [] = drop_of_length-le t {i = 4 * n} (omega arith) in (
        cc (node_at t 0 (omega arith), st.encoded, append-nil (wordsD d)),
        record { root = refl; keeps = (u, v, omega arith, st.keeps); few = omega (arith, st.count) },
      )

  pub passed_words : (e : Element) → tree_of g t ≡ passes e → (t ≡ words e) × Over g e
  unfolding tree_of
  passed_words e h =
      let (x, h') = (required _ _ _ _).0 h in
      let (y, h'') = (required _ _ _ _).0 h' in
      let (d, p, q) = bind_inv _ _ h'' in
      let (r, a, b) = (count_tests (length t)).0 x in
      let (s, z) = (root_tests g (symbol_at t 0) (size_at t 0) (length t / 4)).0 y in
      rw (← passes_inj q) (root-words (omega arith) a b s z
      (stands t g (length t) 31 1 (length t / 4) false d (omega arith) a (omega arith) p))

  words_pass : g ≤ 64 → (e : Element) → t ≡ words e → Over g e → tree_of g t ≡ passes e
  unfolding tree_of is_text size words require ◌>>◌ ◌>>=◌
  words_pass small (text k w) q o = never (sym o.root)
  words_pass small (tag a w d) q o =
      let l = ap length q ∙ length-words (tag a w d) in
      let m = node-is t 0 a (suc (sizeD d)) w (wordsD d) q in
      let k = o.keeps in
      let f = o.few in
      rw (
        (count_tests (length t)).1 (omega arith),
        (root_tests g (symbol_at t 0) (size_at t 0) (length t / 4)).1
            (rw m.symbol-is ((tag_symbol-is g a).1 (k.0, k.1)), omega (arith, m.size_is)),
        read-document t g small d 31 1 (length t / 4) false [] k.3 (omega arith) (omega arith)
            (m.after_is ∙ sym (append-nil (wordsD d))),
        m.symbol-is,
        m.span_is,
      )

-- A tree passes exactly when its words are those of a form over g tags, and it passes as that form. What passes is such a form for any g
-- (`passed_words`), but with more than 64 tags not every such form would pass: see `tag_65`.
pub tree_passes : (g : ℕ) → g ≤ 64 → (t : List ℕ) (e : Element) → (tree_of g t ≡ passes e) ↔ ((t ≡ words e) × Over g e)
tree_passes g small t e = (passed_words g t e, λ h. words_pass g t small e h.0 h.1)

-- two forms over g tags with the same words are one
pub tree_unique : (g : ℕ) → g ≤ 64 → (e f : Element) → Over g e → Over g f → words e ≡ words f → e ≡ f
tree_unique g small e f o p h = passes_inj
    (sym ((tree_passes g small (words f) e).1 (sym h, o)) ∙ (tree_passes g small (words f) f).1 (refl, p))

-- With 65 tags or more, two forms would have the same words: an empty element with tag 65 has those of an integer text.
pub tag_65 : (g : ℕ) → 65 ≤ g → (e f : Element) × Over g e × Over g f × (words e ≡ words f) × (e ≢ f)
unfolding words size is_text
tag_65 g h = (around (text 1 w), around (tag 65 w ε), of_text, of_tag, refl, λ i. let z : ◌≡◌ {A = ℕ} 0 1 = cc in absurd (omega arith))
  where
    w : Span
    w = record { start = 0; bytes = 0 }

    around : Element → Element
    around e = tag 1 w (e · ε)

    of_text : Over g (around (text 1 w))
    of_text = record {
      root = refl;
      keeps = (omega arith, omega arith, omega arith, (refl, (omega arith, omega arith), tt));
      few = omega arith;
    }

    of_tag : Over g (around (tag 65 w ε))
    of_tag = record {
      root = refl;
      keeps = (omega arith, omega arith, omega arith, (refl, (omega arith, omega arith, omega arith, tt), tt));
      few = omega arith;
    }

-- ---- refusals

-- node by node, and so for the whole tree, nothing is refused by another number than 10
seen_refuses : (t : List ℕ) (rest : Reading) (levels i end : ℕ) (s : Seen)
    → ((l j e : ℕ) (b : Bool) → RefusesBy 10 (rest l j e b)) → RefusesBy 10 (children_by t rest levels i end s)
unfolding children_by
seen_refuses t rest levels i end at_end r = tt
seen_refuses t rest levels i end a_text r = bind_refuses 10 _ _ (r levels (i + 1) end true) (λ d. tt)
seen_refuses t rest levels i end (an_element next) r =
    bind_refuses 10 _ _ (r (levels - 1) (i + 1) next false) (λ c. bind_refuses 10 _ _ (r levels next end false) (λ d. tt))
seen_refuses t rest levels i end breaks r = refl

children_refuse : (t : List ℕ) (g steps levels i end : ℕ) (after_text : Bool) → RefusesBy 10 (children t g steps levels i end after_text)
unfolding children
children_refuse t g zero levels i end after_text = tt
children_refuse t g (suc steps) levels i end after_text =
    seen_refuses t (children t g steps) levels i end (look t g levels i end after_text) (children_refuse t g steps)

pub tree_refuses : (g : ℕ) (t : List ℕ) {n i : ℕ} → tree_of g t ≡ refuses n i → n ≡ 10
unfolding tree_of
tree_refuses g t h =
    refuses_by (require_refuses _ 10 _ _
    (require_refuses _ 10 _ _ (bind_refuses 10 _ _ (children_refuse t g (length t) 31 1 (length t / 4) false) (λ d. tt)))) h
