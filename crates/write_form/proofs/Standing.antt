-- What comes first in a document that stands in a tree, and how it is written.
use mathlib.Core.Path.{◌≡◌, refl, sym, ap, ◌∙◌}
use mathlib.Core.Logic.{◌≢◌}
use mathlib.Core.Bool.{Bool, true, false}
use mathlib.Core.List.{List, [], ◌++◌, append_assoc}
use Prim.Native.Nat.{ℕ, suc, ◌+◌, ◌-◌, ◌*◌, ◌≤◌, ◌<◌}
use native.Mathlib.Omega.{arith}
use lib.ListN.{length}
use Rattle.std.proofs.Props.{props}
use Rattle.std.proofs.Math.Logic.{∥∥₁_elim}
use Rattle.model.specs.Answers.{passes}
use Rattle.model.specs.Lists.{every}
use Rattle.model.specs.Names.{name_of}
use Rattle.model.specs.Tree.{text, tag, Document, ε, ◌·◌, size, sizeD, nodes, nodesD, symbol_at, size_at, span_at, of_tag, symbol_of}
use Rattle.model.specs.Tree.{children}
use Rattle.model.specs.Written.{source_bytes, tagged, written, writtenD, good_words}
use Rattle.model.proofs.ListLaws.{every-cons, every_append}
use Rattle.model.proofs.SymbolLaws.{text≢tag, tag_said}
use Rattle.model.proofs.Tests.{Yes}
use Rattle.write_nodes.specs.Nodes.{node_at, span_of, Tag}
use Rattle.write_nodes.specs.declared.Node.{Node}
use Rattle.write_nodes.proofs.FirstLaws.{First, nothing, a_text, an_element, first, some_size}
use Rattle.write_nodes.proofs.SourceLaws.{good-within}
use Rattle.write_bytes.specs.Put.{empty_tag, start_tag, end_tag}
use Rattle.write_form.specs.Stands.{Stands, Standing}

-- ---- how an element is written, by its size

tagged_empty : (name content : List ℕ) (c : Document) → suc (sizeD c) ≡ 1 → tagged name c content ≡ empty_tag name
unfolding tagged size
tagged_empty name content ε h = refl
tagged_empty name content (e · c) h = absurd (omega (arith, some_size e))

tagged_full : (name content rest : List ℕ) (c : Document) → suc (sizeD c) ≢ 1
    → tagged name c content ++ rest ≡ start_tag name ++ (content ++ (end_tag name ++ rest))
unfolding tagged size
tagged_full name content rest ε h = absurd (h refl)
tagged_full name content rest (e · c) h = simp append_assoc

-- ---- the first node of a document that stands in a tree

module _ (list source tree : List ℕ) (levels i end : ℕ) (d : Document) (n : Node) where
  -- node i is n, a text: its bytes, and then the rest
  pub record TextFirst : Type 0 where
    pub rest : Document
    pub after : Stands list source tree levels (i + n.size) end rest
    pub within : n.start + n.bytes ≤ length source
    pub form : writtenD list source d ≡ source_bytes source (span_of n) ++ writtenD list source rest

  -- node i is n, tag a: its content, and then the rest
  pub record ElementFirst (a : ℕ) : Type 0 where
    pub content : Document
    pub rest : Document
    pub inside : Stands list source tree (levels - 1) (i + 1) (i + n.size) content
    pub after : Stands list source tree levels (i + n.size) end rest
    pub named : Tag list a
    pub deep : 0 < levels
    pub ends : i + n.size ≤ end
    pub empty : n.size ≡ 1 → writtenD list source d ≡ empty_tag (name_of list a) ++ writtenD list source rest
    pub full : n.size ≢ 1 → writtenD list source d
        ≡ start_tag (name_of list a) ++ (writtenD list source content ++ (end_tag (name_of list a) ++ writtenD list source rest))

module _ (list source tree : List ℕ) (levels i end : ℕ) (d : Document) (s : Stands list source tree levels i end d) where
  -- the same names and words, elsewhere in the tree
  elsewhere : {levels' i' end' : ℕ} {c : Document} (after_text : Bool) → end' ≤ end
      → children tree s.tags (length tree) levels' i' end' after_text ≡ passes c
      → Yes (every (good_words source) (nodesD c)) → Stands list source tree levels' i' end' c
  elsewhere after_text h read good = record {
    tags = s.tags;
    after_text = after_text;
    names = s.names;
    within = omega (arith, s.within);
    read = read;
    good = good;
  }

  text_by : (d' : Document) → First tree s.tags levels i end d' → Yes (every (good_words source) (nodesD d')) → i < end
      → ((a : ℕ) → symbol_of (symbol_at tree i) ≢ of_tag a) → TextFirst list source tree levels i end d' (node_at tree i)
  unfolding nodes written good_words
  text_by d' (nothing le) good h k = absurd (omega arith)
  text_by d' (a_text {d = rest} lt sy one read) good h k =
      let (u, v) = every-cons (good_words source) (text (symbol_at tree i - 64) (span_at tree i)) (nodesD rest) good in
      let after = ap (λ (m : ℕ). children tree s.tags (length tree) levels (i + m) end true) one ∙ read in
      record { rest = rest; after = elsewhere true (omega arith) after v; within = good-within source (span_at tree i) _ u; form = refl }
  text_by d' (an_element y _ _ _ _ _ _) good h k = absurd (k _ y)

  element_by : {a : ℕ} (d' : Document) → First tree s.tags levels i end d' → Yes (every (good_words source) (nodesD d')) → i < end
      → symbol_of (symbol_at tree i) ≡ of_tag a → ElementFirst list source tree levels i end d' (node_at tree i) a
  unfolding nodes written
  element_by d' (nothing le) good h k = absurd (omega arith)
  element_by d' (a_text lt sy _ read) good h k = absurd (text≢tag (sym sy ∙ k))
  element_by {a} d' (an_element {c} {d = rest} y b l z le inside after) good h k =
      let (is, some, _) = tag_said _ k in
      let (u, v) = every_append (good_words source) (nodes (tag (symbol_at tree i) (span_at tree i) c)) (nodesD rest) good in
      let name = name_of list (symbol_at tree i) in
      record {
        content = c;
        rest = rest;
        inside = elsewhere false le inside (every-cons (good_words source) _ (nodesD c) u).1;
        after = elsewhere false (omega arith) after v;
        named = record { tags = s.tags; names = s.names; some = some; few = omega arith };
        deep = l;
        ends = le;
        empty = λ e. rw (← is) (ap (λ (form : List ℕ). form ++ writtenD list source rest)
            (tagged_empty name (writtenD list source c) c (omega arith)));
        full = λ e. rw (← is) (tagged_full name (writtenD list source c) (writtenD list source rest) c (λ f. e (omega arith)));
      }

  stands-first : First tree s.tags levels i end d
  stands-first = first tree s.tags levels i end s.after_text d s.within s.read

  pub text_first : (n : Node) → n ≡ node_at tree i → i < end → ((a : ℕ) → symbol_of n.symbol ≢ of_tag a)
      → TextFirst list source tree levels i end d n
  text_first n is h = rw is (text_by d stands-first s.good h)

  pub element_first : (n : Node) {a : ℕ} → n ≡ node_at tree i → i < end → symbol_of n.symbol ≡ of_tag a
      → ElementFirst list source tree levels i end d n a
  element_first n is h = rw is (element_by d stands-first s.good h)

  none_by : (d' : Document) → First tree s.tags levels i end d' → end ≤ i → writtenD list source d' ≡ []
  unfolding written
  none_by d' (nothing le) h = refl
  none_by d' (a_text lt _ _ _) h = absurd (omega arith)
  none_by d' (an_element _ _ _ z le _ _) h = absurd (omega arith)

  -- nothing is left to write
  pub written_none : end ≤ i → writtenD list source d ≡ []
  written_none h = none_by d stands-first h

-- ---- the nodes after the first, which is a text of size 1, or an element

-- a document stands behind node i too, and its nodes are of the tree
abbrev Behind : (list source tree : List ℕ) (levels i end : ℕ) → Type 0
Behind list source tree levels i end =
    ∥ Standing list source tree levels (i + size_at tree i) end ∥₁ × (1 ≤ size_at tree i) × (i + size_at tree i ≤ end)
    × (4 * end ≤ length tree)

module _ {list source tree : List ℕ} {levels i end : ℕ} (h : i < end) where
  behind_by : {d : Document} (s : Stands list source tree levels i end d) (d' : Document) → First tree s.tags levels i end d'
      → Yes (every (good_words source) (nodesD d')) → Behind list source tree levels i end
  unfolding nodes
  behind_by s d' (nothing le) good = absurd (omega arith)
  behind_by {d} s d' (a_text {d = rest} lt sy one read) good =
      let (u, v) = every-cons (good_words source) (text (symbol_at tree i - 64) (span_at tree i)) (nodesD rest) good in
      let after = ap (λ (m : ℕ). children tree s.tags (length tree) levels (i + m) end true) one ∙ read in (
        ∣ record { document = rest; stands = elsewhere list source tree levels i end d s true (omega arith) after v } ∣₁,
        omega arith,
        omega arith,
        s.within,
      )
  behind_by {d} s d' (an_element {c} {d = rest} y b l z le inside after) good =
      let (u, v) = every_append (good_words source) (nodes (tag (symbol_at tree i) (span_at tree i) c)) (nodesD rest) good in (
        ∣ record { document = rest; stands = elsewhere list source tree levels i end d s false (omega arith) after v } ∣₁,
        omega arith,
        le,
        s.within,
      )

  pub standing-behind : ∥ Standing list source tree levels i end ∥₁ → Behind list source tree levels i end
  standing-behind m = ∥∥₁_elim m (Prim.hlevel props)
      (λ x. behind_by x.stands x.document (stands-first list source tree levels i end x.document x.stands) x.stands.good)
