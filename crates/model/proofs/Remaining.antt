-- What remains of a text that the one pass takes, from a state on, by the grammar; and what a byte ahead of it makes of it.
use mathlib.Core.Path.{◌≡◌, refl, sym, ap, subst, subst₂, ◌∙◌}
use mathlib.Core.Logic.{◌⊎◌, inl, inr, ◌≢◌}
use mathlib.Core.Bool.{false}
use mathlib.Core.List.{List, [], ◌∷◌, ◌++◌, append_assoc}
use Prim.Native.Nat.{ℕ, suc, ◌+◌}
use native.Mathlib.Omega.{arith}
use native.Mathlib.Nat.{add-zero}
use lib.ListN.{length, length-append}
use Rattle.model.specs.Lists.{every}
use Rattle.model.specs.Tree.{Element, Document, ε, ◌·◌}
use Rattle.model.specs.Bytes.{white, less, class_number, is, class_of, less_byte, greater_byte, slash_byte, name_byte}
use Rattle.model.specs.Names.{tag_of}
use Rattle.model.specs.Text.{Open, name_at, text_at, trimmed, behind, text_node, tag_node, an_open}
use Rattle.model.specs.Written.{text_byte, solid_byte}
use Rattle.model.specs.Grammar.{list_bytes, TagOf, NameList, White, no_white, more_white, start_bytes, end_bytes, empty_bytes}
use Rattle.model.specs.Grammar.{ElementAt, empty, full, ContentAt, TagsAt, no_more, more}
use Rattle.model.specs.Grammar as grammar
use Rattle.model.proofs.Tests.{Yes, Told, yea, nay, told, and_yes}
use Rattle.model.proofs.ByteLaws.{is_class, not_less}
use Rattle.model.proofs.DocumentLaws.{followed, followed_ε, followed_behind}
use Rattle.model.proofs.NameList.{tag_numbers}
use Rattle.model.proofs.TextLaws.{name-goes-on, name-ends, text_ends, text_begins, text_trimmed}

-- ---- white, a name or a text, and then what P says

-- The text goes on as r, from offset i on: white, some bytes, and what P says.
pub record Gap (end : List ℕ) (P : ℕ → List ℕ → Type 0) (i : ℕ) (r : List ℕ) : Type 0 where
  pub bytes : List ℕ
  pub next : List ℕ
  pub is_white : White bytes
  pub bytes_are : r ≡ bytes ++ (end ++ next)
  pub follows : P (i + length bytes + length end) next

-- The name at hand, and what P says.
pub record Named (P : ℕ → List ℕ → Type 0) (i : ℕ) (r : List ℕ) : Type 0 where
  pub next : List ℕ
  pub bytes_are : r ≡ name_at r ++ next
  pub follows : P (i + length (name_at r)) next

-- The text at hand, white, and what P says.
pub record Texted (P : ℕ → List ℕ → Type 0) (i : ℕ) (r : List ℕ) : Type 0 where
  pub bytes : List ℕ
  pub next : List ℕ
  pub is_text : Yes (every text_byte (text_at r))
  pub is_white : White bytes
  pub bytes_are : r ≡ text_at r ++ (bytes ++ next)
  pub follows : P (i + length (text_at r) + length bytes) next

-- a byte ahead of what may be a text: it joins the text, or it is white and no text is there
data Joins (b : ℕ) (t : List ℕ) : Type 0 where
  joins : text_at (b ∷ t) ≡ b ∷ text_at t → Joins b t
  alone : text_at (b ∷ t) ≡ [] → text_at t ≡ [] → class_of b ≡ white → Joins b t

joins_text : (b : ℕ) (t : List ℕ) → Yes (text_byte b) → Joins b t
unfolding text_at trimmed
joins_text b t h = go (text_at t) refl
  where
    ahead : text_at (b ∷ t) ≡ trimmed b (text_at t)
    ahead = rw (not_less b h)

    by : text_at t ≡ [] → Told (is (class_of b) white) → Joins b t
    by e (yea w) = alone (ahead ∙ rw (e, w)) e (is_class (class_of b) white w)
    by e (nay w) = joins (ahead ∙ rw (e, w))

    go : (u : List ℕ) → text_at t ≡ u → Joins b t
    go [] e = by e (told (is (class_of b) white))
    go (x ∷ u) e = joins (ahead ∙ rw e)

module _ (P : ℕ → List ℕ → Type 0) (i b : ℕ) (t : List ℕ) where
  pub gap_on : (end : List ℕ) → class_of b ≡ white → Gap end P (suc i) t → Gap end P i (b ∷ t)
  gap_on end e g = record {
    bytes = b ∷ g.bytes;
    next = g.next;
    is_white = more_white e g.is_white;
    bytes_are = ap (λ l. b ∷ l) g.bytes_are;
    follows = subst (λ (j : ℕ). P j g.next) (omega arith) g.follows;
  }

  pub gap_done : (end u : List ℕ) {j : ℕ} → b ∷ t ≡ end ++ u → j ≡ i + length end → P j u → Gap end P i (b ∷ t)
  gap_done end u e h p = record {
    bytes = [];
    next = u;
    is_white = no_white;
    bytes_are = e;
    follows = subst (λ (j : ℕ). P j u) (omega arith) p;
  }

  pub name-on : Yes (name_byte b) → Named P (suc i) t → Named P i (b ∷ t)
  name-on h m =
      let e = name-goes-on b t h in
      record {
        next = m.next;
        bytes_are = rw e (ap (λ l. b ∷ l) m.bytes_are);
        follows = subst (λ (j : ℕ). P j m.next) (omega (arith, ap length e)) m.follows;
      }

  pub name-over : name_byte b ≡ false → P i (b ∷ t) → Named P i (b ∷ t)
  name-over h p =
      let e = name-ends b t h in
      record { next = b ∷ t; bytes_are = rw e; follows = subst (λ (j : ℕ). P j (b ∷ t)) (omega (arith, ap length e)) p }

  pub text_on : Yes (text_byte b) → Texted P (suc i) t → Texted P i (b ∷ t)
  unfolding every
  text_on h x = go (joins_text b t h)
    where
      go : Joins b t → Texted P i (b ∷ t)
      go (joins e) = record {
        bytes = x.bytes;
        next = x.next;
        is_text = rw e (and_yes h x.is_text);
        is_white = x.is_white;
        bytes_are = rw e (ap (λ l. b ∷ l) x.bytes_are);
        follows = subst (λ (j : ℕ). P j x.next) (omega (arith, ap length e)) x.follows;
      }
      go (alone e none w) = record {
        bytes = b ∷ x.bytes;
        next = x.next;
        is_text = rw e;
        is_white = more_white w x.is_white;
        bytes_are = rw e (ap (λ l. b ∷ l) (rw none at x.bytes_are));
        follows = subst (λ (j : ℕ). P j x.next) (omega (arith, ap length e, ap length none)) x.follows;
      }

  pub text_over : class_of b ≡ less → P i (b ∷ t) → Texted P i (b ∷ t)
  unfolding every is class_number
  text_over e p =
      let none = text_ends b t (rw e) in
      record {
        bytes = [];
        next = b ∷ t;
        is_text = rw none;
        is_white = no_white;
        bytes_are = rw none;
        follows = subst (λ (j : ℕ). P j (b ∷ t)) (omega (arith, ap length none)) p;
      }

-- ---- content, elements and tags

-- The text goes on as r, from offset i on, to its end, where the content is f. The content read so far is c.
module _ (names : List (List ℕ)) (f : Document) where
  mutual
    -- After an element: after the root white; else the content that remains, and the end of the open element.
    pub data Outside : List Open → (c : Document) (i : ℕ) (r : List ℕ) → Type 0 where
      over : {c : Document} {i : ℕ} {r : List ℕ} → White r → c ≡ f → Outside [] c i r
      inside : {o : Open} {os : List Open} {c : Document} {i : ℕ} {r : List ℕ} (d : Document) (s t : List ℕ)
          → ContentAt names i s d → r ≡ s ++ t → Closes o os (followed c d) (i + length s) t → Outside (o ∷ os) c i r

    -- At the end tag of the open element o: that tag, and what remains after the element.
    pub data Closes : Open → List Open → (c : Document) (i : ℕ) (r : List ℕ) → Type 0 where
      ends : {o : Open} {os : List Open} {c : Document} {i : ℕ} {r : List ℕ} (name w t : List ℕ)
          → tag_of (list_bytes names) name ≡ o.name → White w → r ≡ end_bytes name w ++ t
          → Outside os (behind o.earlier (tag_node o.name c)) (i + length (end_bytes name w)) t → Closes o os c i r

  -- After the open element o.
  abbrev pub Closed : Open → List Open → (c : Document) (i : ℕ) (r : List ℕ) → Type 0
  Closed o os c i r = Outside os (behind o.earlier (tag_node o.name c)) i r

  -- After the name of its start tag: > and content, or />. After the name of its end tag: >.
  abbrev pub AfterStart : Open → List Open → (c : Document) (i : ℕ) (r : List ℕ) → Type 0
  AfterStart o os c i r = Gap (greater_byte ∷ []) (Outside (o ∷ os) c) i r ⊎ Gap (slash_byte ∷ greater_byte ∷ []) (Closed o os c) i r

  abbrev pub AfterEnd : Open → List Open → (c : Document) (i : ℕ) (r : List ℕ) → Type 0
  AfterEnd o os c i r = Gap (greater_byte ∷ []) (Closed o os c) i r

  -- At a start tag: the element, and what remains after it.
  pub record Opens (os : List Open) (c : Document) (i : ℕ) (r : List ℕ) : Type 0 where
    pub element : Element
    pub bytes : List ℕ
    pub next : List ℕ
    pub is_element : ElementAt names i bytes element
    pub bytes_are : r ≡ bytes ++ next
    pub follows : Outside os (behind c element) (i + length bytes) next

  -- At a tag in content: the content that remains from there on, and the end of the open element.
  pub record FromTag (o : Open) (os : List Open) (c : Document) (i : ℕ) (r : List ℕ) : Type 0 where
    pub content : Document
    pub bytes : List ℕ
    pub next : List ℕ
    pub tags : TagsAt names i bytes content
    pub bytes_are : r ≡ bytes ++ next
    pub end : Closes o os (followed c content) (i + length bytes) next

  -- ---- content

  module _ (o : Open) (os : List Open) (c : Document) (i : ℕ) (r : List ℕ) where
    -- an element, or the end tag, is at a tag; a tag is content
    pub element_next : Opens (o ∷ os) c i r → FromTag o os c i r
    element_next x = go x.follows
      where
        go : Outside (o ∷ os) (behind c x.element) (i + length x.bytes) x.next → FromTag o os c i r
        go (inside d s t content e end) = record {
          content = x.element · d;
          bytes = x.bytes ++ s;
          next = t;
          tags = more x.is_element content;
          bytes_are = x.bytes_are ∙ ap (λ l. x.bytes ++ l) e ∙ sym (append_assoc x.bytes s t);
          end = subst₂ (λ (d : Document) (j : ℕ). Closes o os d j t) (followed_behind c x.element d)
              (omega (arith, length-append x.bytes s)) end;
        }

    pub end-next : Closes o os c i r → FromTag o os c i r
    end-next x = record {
      content = ε;
      bytes = [];
      next = r;
      tags = no_more;
      bytes_are = refl;
      end = subst₂ (λ (d : Document) (j : ℕ). Closes o os d j r) (sym (followed_ε c)) (sym (add-zero i)) x;
    }

    pub tag_next : FromTag o os c i r → Outside (o ∷ os) c i r
    tag_next x =
        let tags = subst (λ (j : ℕ). TagsAt names j x.bytes x.content) (sym (add-zero i)) x.tags in
        inside x.content x.bytes x.next (grammar.blank no_white tags) x.bytes_are x.end

  -- white ahead of content
  white_content : {i b : ℕ} {s : List ℕ} {d : Document} → class_of b ≡ white → ContentAt names (suc i) s d → ContentAt names i (b ∷ s) d
  white_content {i} {b} e (grammar.blank {s = s} {d} v ts) =
      grammar.blank {i = i} (more_white e v) (subst (λ (j : ℕ). TagsAt names j s d) (omega arith) ts)
  white_content {i} {b} e (grammar.text {w = w} {w'} {s} {d} t v h u ts) =
      let later : i + suc (length w) ≡ suc i + length w = omega arith in
      subst (λ (j : ℕ). ContentAt names i (b ∷ (w ++ (t ++ (w' ++ s)))) (text_node j t · d)) later
      (grammar.text {i = i} t (more_white e v) h u (subst (λ (j : ℕ). TagsAt names j s d) (omega arith) ts))

  module _ (o : Open) (os : List Open) (c : Document) (i b : ℕ) (t : List ℕ) where
    pub blank-on : class_of b ≡ white → Outside (o ∷ os) c (suc i) t → Outside (o ∷ os) c i (b ∷ t)
    blank-on e (inside d s u content bytes_are end) =
        inside d (b ∷ s) u (white_content e content) (ap (λ l. b ∷ l) bytes_are)
        (subst (λ (j : ℕ). Closes o os (followed c d) j u) (omega arith) end)

    -- a text ahead of a tag
    pub text_begun : Yes (text_byte b) → Yes (solid_byte b) → Texted (FromTag o os (behind c (text_node i (text_at (b ∷ t))))) (suc i) t
        → Outside (o ∷ os) c i (b ∷ t)
    text_begun h k x =
        let y = x.follows in
        let bytes = text_at (b ∷ t) in
        let begun = text_begins b t h k in
        let node = text_node (i + 0) bytes in
        let all : b ∷ t ≡ bytes ++ (x.bytes ++ x.next) = rw begun (ap (λ l. b ∷ l) x.bytes_are) in
        let e : (bytes ++ (x.bytes ++ y.bytes)) ++ y.next ≡ bytes ++ (x.bytes ++ (y.bytes ++ y.next)) = simp append_assoc in
        let l₁ = ap length begun in
        let l₂ = length-append bytes (x.bytes ++ y.bytes) in
        let l₃ = length-append x.bytes y.bytes in
        inside (node · y.content) (bytes ++ (x.bytes ++ y.bytes)) y.next
        (grammar.text {i = i} bytes no_white (text_trimmed b t h k x.is_text) x.is_white
        (subst (λ (j : ℕ). TagsAt names j y.bytes y.content) (omega arith) y.tags))
        (all ∙ ap (λ l. bytes ++ (x.bytes ++ l)) y.bytes_are ∙ sym e)
        (subst₂ (λ (d : Document) (j : ℕ). Closes o os d j y.next)
        (ap (λ (j : ℕ). followed (behind c (text_node j bytes)) y.content) (sym (add-zero i)) ∙ followed_behind c node y.content)
        (omega arith) y.end)

  -- ---- tags

  -- an end tag that names the open element ends it
  pub ended : (o : Open) (os : List Open) (c : Document) (i b : ℕ) (t : List ℕ)
      → Yes (name_byte b) → tag_of (list_bytes names) (name_at (b ∷ t)) ≡ o.name → Named (AfterEnd o os c) (suc (suc (suc i))) t
      → Closes o os c i (less_byte ∷ slash_byte ∷ b ∷ t)
  ended o os c i b t h same_tag m =
      let goes_on = name-goes-on b t h in
      let g = m.follows in
      let name = name_at (b ∷ t) in
      let w = g.bytes in
      let e : (name ++ (w ++ (greater_byte ∷ []))) ++ g.next ≡ name ++ (w ++ (greater_byte ∷ g.next)) = simp append_assoc in
      let all : b ∷ t ≡ name ++ m.next = rw goes_on (ap (λ l. b ∷ l) m.bytes_are) in
      ends {i = i} name w g.next same_tag g.is_white
      (ap (λ l. less_byte ∷ slash_byte ∷ l) (all ∙ ap (λ l. name ++ l) g.bytes_are ∙ sym e))
      (subst (λ (j : ℕ). Closed o os c j g.next)
      (omega (arith, ap length goes_on, length-append name (w ++ (greater_byte ∷ [])), length-append w (greater_byte ∷ []))) g.follows)

  module _ (is-list : NameList names) (os : List Open) (c : Document) (i b : ℕ) (t : List ℕ) where
    abbrev name : List ℕ
    name = name_at (b ∷ t)

    abbrev number : ℕ
    number = tag_of (list_bytes names) name

    -- a start tag that is listed begins an element
    pub opened : Yes (name_byte b) → number ≢ 0 → Named (AfterStart (an_open number c) os ε) (suc (suc i)) t
        → Opens os c i (less_byte ∷ b ∷ t)
    unfolding followed
    opened h listed m = go m.follows
      where
        goes_on : name ≡ b ∷ name_at t
        goes_on = name-goes-on b t h

        all : b ∷ t ≡ name ++ m.next
        all = rw goes_on (ap (λ l. b ∷ l) m.bytes_are)

        tag_is : TagOf names number name
        tag_is = (tag_numbers names is-list number name).1 (omega arith, refl)

        -- with content, up to the end tag
        whole : (w v : List ℕ) → White w → m.next ≡ w ++ (greater_byte ∷ v)
            → Outside (an_open number c ∷ os) ε (suc (suc i) + length (name_at t) + length w + 1) v → Opens os c i (less_byte ∷ b ∷ t)
        whole w v h e (inside d s t' content e₁ (ends twin u t'' same_tag h₁ e₂ follows)) =
            let same_name : twin ≡ name =
            sym ((tag_numbers names is-list number twin).1 (omega arith, same_tag)).name_is ∙ tag_is.name_is in
            let e₃ : v ≡ s ++ (end_bytes name u ++ t'') = e₁ ∙ ap (λ l. s ++ l) (e₂ ∙ ap (λ n. end_bytes n u ++ t'') same_name) in
            let e₄ : (start_bytes name w ++ (s ++ end_bytes name u)) ++ t''
            ≡ less_byte ∷ (name ++ (w ++ (greater_byte ∷ (s ++ (end_bytes name u ++ t''))))) = simp append_assoc in
            let l₁ : length (start_bytes name w) ≡ suc (length name + (length w + 1)) =
            omega (arith, length-append name (w ++ (greater_byte ∷ [])), length-append w (greater_byte ∷ [])) in
            let l₂ = length-append (start_bytes name w) (s ++ end_bytes name u) in
            let l₃ = length-append s (end_bytes name u) in
            let l₄ = ap (λ n. length (end_bytes n u)) same_name in
            let l₅ = ap length goes_on in
            record {
              element = tag_node number d;
              bytes = start_bytes name w ++ (s ++ end_bytes name u);
              next = t'';
              is_element = full {i = i} tag_is h (subst (λ (j : ℕ). ContentAt names j s d) (omega arith) content) h₁;
              bytes_are = ap (λ l. less_byte ∷ l) (all ∙ ap (λ l. name ++ l) (e ∙ ap (λ l. w ++ (greater_byte ∷ l)) e₃)) ∙ sym e₄;
              follows = subst (λ (j : ℕ). Outside os (behind c (tag_node number d)) j t'') (omega arith) follows;
            }

        go : AfterStart (an_open number c) os ε (suc (suc i) + length (name_at t)) m.next → Opens os c i (less_byte ∷ b ∷ t)
        go (inl g) = whole g.bytes g.next g.is_white g.bytes_are g.follows
        go (inr g) =
            let end = slash_byte ∷ greater_byte ∷ [] in
            let e : (name ++ (g.bytes ++ end)) ++ g.next ≡ name ++ (g.bytes ++ (end ++ g.next)) = simp append_assoc in
            record {
              element = tag_node number ε;
              bytes = empty_bytes name g.bytes;
              next = g.next;
              is_element = empty tag_is g.is_white;
              bytes_are = ap (λ l. less_byte ∷ l) (all ∙ ap (λ l. name ++ l) g.bytes_are ∙ sym e);
              follows = subst (λ (j : ℕ). Outside os (behind c (tag_node number ε)) j g.next)
                  (omega (arith, ap length goes_on, length-append name (g.bytes ++ end), length-append g.bytes end)) g.follows;
            }
