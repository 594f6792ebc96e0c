-- A form by the grammar: its text words are good, and what is written of it is no longer than it.
use mathlib.Core.Path.{◌≡◌, refl, sym, ap, subst, ◌∙◌}
use mathlib.Core.List.{List, [], ◌∷◌, ◌++◌, append_assoc}
use Prim.Native.Nat.{ℕ, ◌+◌, ◌≤◌}
use native.Mathlib.Omega.{arith}
use native.Mathlib.Nat.{zero-add}
use lib.ListN.{length, take, drop, length-append}
use lib.Seq.{take_at, drop_at, drop-drop}
use borrow.Author.Tests.{le-leb}
use Rattle.model.specs.Lists.{every}
use Rattle.model.specs.Tree.{Element, Document, ε, ◌·◌, nodes, nodesD}
use Rattle.model.specs.Bytes.{kind_of_text}
use Rattle.model.specs.Names.{name_of}
use Rattle.model.specs.Text.{text_node, tag_node}
use Rattle.model.specs.Written.{source_bytes, tagged, written, writtenD, trimmed_text, good_text, good_words}
use Rattle.model.specs.Grammar.{list_bytes, NameList, start_bytes, end_bytes, Form, form}
use Rattle.model.proofs.Tests.{Yes, and_yes, eqb_yes}
use Rattle.model.proofs.ListLaws.{every-both}
use Rattle.model.proofs.DocumentLaws.{GoodNodes}
use Rattle.model.proofs.NameList.{tag_name}
use Rattle.model.proofs.GrammarLaws.{Kept, every_element}

-- the bytes of a written element
tagged_empty : (name content : List ℕ) → length (tagged name ε content) ≡ 3 + length name
unfolding tagged
tagged_empty name content = omega (arith, length-append name (47 ∷ 62 ∷ []))

tagged-most : (name : List ℕ) (d : Document) (content : List ℕ) → length
    (tagged name d content) ≤ 5 + length name + length name + length content
unfolding tagged
tagged-most name ε content = omega (arith, tagged_empty name content)
tagged-most name (e · d) content =
    let end = name ++ (62 ∷ []) in
    omega (
      arith,
      length-append name (62 ∷ (content ++ (60 ∷ 47 ∷ end))),
      length-append content (60 ∷ 47 ∷ end),
      length-append name (62 ∷ []),
    )

-- at offset i the text s goes on as r
record Rest (s : List ℕ) (i : ℕ) (r : List ℕ) : Type 0 where
  within : i + length r ≡ length s
  front : drop i s ≡ r

module _ (source : List ℕ) where
  -- bytes at an offset, and what goes on after them
  rest-after : {i : ℕ} (b r : List ℕ) → Rest source i (b ++ r) → Rest source (i + length b) r
  rest-after {i} b r h = record {
    within = omega (arith, h.within, length-append b r);
    front = sym (drop-drop (length b) i source) ∙ ap (drop (length b)) h.front ∙ drop_at b r (length b) refl;
  }

  -- of two parts, the first and the second
  first_part : {i : ℕ} (a b r : List ℕ) → Rest source i ((a ++ b) ++ r) → Rest source i (a ++ (b ++ r))
  first_part {i} a b r h = subst (Rest source i) (append_assoc a b r) h

  second_part : {i : ℕ} (a b r : List ℕ) → Rest source i ((a ++ b) ++ r) → Rest source (i + length a) (b ++ r)
  second_part a b r h = rest-after a (b ++ r) (first_part a b r h)

  -- the bytes of a text, by its node
  source_is : {i : ℕ} (t r : List ℕ) → Rest source i (t ++ r) → source_bytes source (record { start = i; bytes = length t }) ≡ t
  unfolding source_bytes
  source_is t r h = ap (take (length t)) h.front ∙ take_at t r (length t) refl

  text_good : {i : ℕ} (t r : List ℕ) → Rest source i (t ++ r) → Yes (trimmed_text t) → Yes (good_words source (text_node i t))
  unfolding good_words good_text text_node
  text_good {i} t r h y =
      and_yes (le-leb (i + length t) (length source) (omega (arith, h.within, length-append t r)))
      (rw (source_is t r h) (and_yes y (eqb_yes {m = kind_of_text t} refl)))

  module _ (names : List (List ℕ)) (is-list : NameList names) where
    abbrev list : List ℕ
    list = list_bytes names

    abbrev ElementGood : ℕ → List ℕ → Element → Type 0
    ElementGood i b e = (r : List ℕ) → Rest source i (b ++ r) → GoodNodes source (nodes e) × (length (written list source e) ≤ length b)

    abbrev ContentGood : ℕ → List ℕ → Document → Type 0
    ContentGood i b d = (r : List ℕ) → Rest source i (b ++ r) → GoodNodes source (nodesD d) × (length (writtenD list source d) ≤ length b)

    kept : Kept names ElementGood ContentGood ContentGood
    unfolding nodes good_words every written text_node tag_node
    kept = record {
      if_empty = λ {a = a} {name} {w} t v r h.
          let e = ap length (tag_name names is-list t) in
          let l = tagged_empty (name_of list a) (writtenD list source ε) in
          (refl, omega (arith, length-append name (w ++ (47 ∷ 62 ∷ [])), length-append w (47 ∷ 62 ∷ [])));
      if_full = λ {a = a} {name} {w} {w'} {s} {d} t v content u r h.
          let inner = second_part (start_bytes name w) (s ++ end_bytes name w') r h in
          let (good, short) = content (end_bytes name w' ++ r) (first_part s (end_bytes name w') r inner) in
          let e = ap length (tag_name names is-list t) in
          let l₀ = tagged-most (name_of list a) d (writtenD list source d) in
          let l₁ = length-append (start_bytes name w) (s ++ end_bytes name w') in
          let l₂ = length-append s (end_bytes name w') in
          let l₃ = length-append name (w ++ (62 ∷ [])) in
          let l₄ = length-append name (w' ++ (62 ∷ [])) in
          let l₅ = length-append w (62 ∷ []) in
          let l₆ = length-append w' (62 ∷ []) in
          (good, omega arith);
      if_blank = λ {w = w} {s} v tags r h. let (good, short) = tags r (second_part w s r h) in (good, omega (arith, length-append w s));
      if_text = λ {i} {w} {w'} {s} {d} t v y u ts tags r h.
          let here = first_part t (w' ++ s) r (second_part w (t ++ (w' ++ s)) r h) in
          let (good, short) = tags r (second_part w' s r (rest-after t ((w' ++ s) ++ r) here)) in
          let bytes = source_bytes source (record { start = i + length w; bytes = length t }) in
          let l₀ = ap length (source_is t ((w' ++ s) ++ r) here) in
          let l₁ = length-append w (t ++ (w' ++ s)) in
          let l₂ = length-append t (w' ++ s) in
          let l₃ = length-append w' s in
          let l₄ = length-append bytes (writtenD list source d) in
          (and_yes (text_good t ((w' ++ s) ++ r) here y) good, omega arith);
      if_over = λ r h. (refl, omega arith);
      if_more = λ {s = s} {t} {e} {d} x element content r h.
          let (good, short) = element (t ++ r) (first_part s t r h) in
          let (good', short') = content r (second_part s t r h) in (
            every-both (good_words source) (nodes e) (nodesD d) good good',
            omega (arith, length-append (written list source e) (writtenD list source d), length-append s t),
          );
    }

-- the text words of its nodes are good, and what is written of it is no longer
pub form-good : (names : List (List ℕ)) → NameList names → {s : List ℕ} {e : Element} → Form names s e
    → GoodNodes s (nodes e) × (length (written (list_bytes names) s e) ≤ length s)
form-good names is-list (form {w} {w'} {s} {e} v x u) =
    let text = w ++ (s ++ w') in
    let start : Rest text 0 text = record { within = zero-add (length text); front = refl } in
    let whole = subst (λ (j : ℕ). Rest text j (s ++ w')) (zero-add (length w)) (rest-after text w (s ++ w') start) in
    let (good, short) = every_element (kept text names is-list) x w' whole in
    (good, omega (arith, length-append w (s ++ w'), length-append s w'))
