-- The loop over siblings: what is left to put, what each node asks for and what it leaves.
use mathlib.Core.Path.{◌≡◌, refl, ◌∙◌}
use mathlib.Core.Logic.{◌≢◌}
use mathlib.Core.List.{List, ◌++◌}
use Prim.Native.Nat.{ℕ, ◌+◌, ◌-◌, ◌≤◌, ◌<◌}
use native.Mathlib.Omega.{arith}
use lib.ListN.{length}
use Rattle.model.specs.Names.{name_of}
use Rattle.model.specs.Tree.{Document, of_tag, symbol_of}
use Rattle.model.specs.Tree as model
use Rattle.model.specs.Written.{source_bytes, writtenD}
use Rattle.symbols.specs.Meaning.{meaning}
use Rattle.symbols.specs.declared.Symbol.{Symbol}
use Rattle.symbols.specs.declared.Symbol.TheVariants as variants
use Rattle.symbols.proofs.MeaningLaws.{means}
use Rattle.write_nodes.specs.Nodes.{node_at, span_of, Tag}
use Rattle.write_nodes.specs.declared.Node.{Node}
use Rattle.write_nodes.proofs.SourceLaws.{source_length}
use Rattle.write_bytes.specs.Put.{Put, Room, Writes, empty_tag, start_tag, end_tag}
use Rattle.write_bytes.specs.declared.Form.{Form}
use Rattle.write_bytes.proofs.Stores.{stored-put, put_none, put_then, put-length, room_here, room_after}
use Rattle.write_form.specs.Stands.{Stands, Standing}
use Rattle.write_form.specs.Forms.{ReadyAt, PutsAt, Ready, Puts, NodeNext}
use Rattle.write_form.specs.declared.Siblings.{Siblings}
use Rattle.write_form.proofs.Standing.{TextFirst, text_first, ElementFirst, element_first, written_none}

-- Of document d, which is to lead on from form p, the rest stands from node i on: whatever puts the rest on from form q has put the
-- document.
pub record Left (list source tree : List ℕ) (levels first end : ℕ) (p : Form) (d : Document) (q : Form) (i : ℕ) : Type 0 where
  pub rest : Document
  pub stands : Stands list source tree levels i end rest
  pub puts : (next : ℕ) (after : List ℕ) → Put q.out.now q.at (writtenD list source rest) next after
      → Put p.out.now p.at (writtenD list source d) next after

-- the loop's invariant: so it is for whichever document the siblings are
pub record Loop (list source tree : List ℕ) (levels first end : ℕ) (p q : Form) (i : ℕ) : Type 0 where
  pub same : q.out.ghost_name ≡ p.out.ghost_name
  pub kept : length q.out.now ≡ length p.out.now
  pub left : (d : Document) → Stands list source tree levels first end d → Left list source tree levels first end p d q i

pub loop_start : {list source tree : List ℕ} {levels first end : ℕ} {p : Form} → Loop list source tree levels first end p p first
loop_start = record { same = refl; kept = refl; left = λ d h. record { rest = d; stands = h; puts = λ m a p. p } }

pub loop_end : {list source tree : List ℕ} {levels first end : ℕ} {p q : Form} {i : ℕ}
    → Loop list source tree levels first end p q i → end ≤ i → PutsAt list source tree levels first end p q
loop_end {list} {source} {tree} {levels} {first} {end} {p} {q} {i} l h d stands =
    let r = l.left d stands in
    let none = written_none list source tree levels i end r.rest r.stands h in
    record { same = l.same; is = r.puts q.at q.out.now (rw none (put_none q.out.now q.at)) }

-- ---- a turn of the loop

-- node i is n
pub record Turn (list source tree : List ℕ) (levels first end : ℕ) (p q : Form) (i : ℕ) (n : Node) : Type 0 where
  pub ready : ReadyAt list source tree levels first end p
  pub loop : Loop list source tree levels first end p q i
  pub within : i < end
  pub is : n ≡ node_at tree i

module _ {list source tree : List ℕ} {levels first end : ℕ} {p q : Form} {i : ℕ} {n : Node}
    (t : Turn list source tree levels first end p q i n) where
  -- of the document that the caller hands over
  abbrev pub left : Left list source tree levels first end p t.ready.document q i
  left = t.loop.left t.ready.document t.ready.stands

  left_room : Room q (writtenD list source left.rest)
  left_room = omega (
    arith,
    (left.puts _ _ (stored-put q.out.now q.at (writtenD list source left.rest))).next_is,
    t.loop.kept,
    t.ready.room,
  )

  -- ---- a text

  module _ (k : (a : ℕ) → symbol_of n.symbol ≢ of_tag a) where
    text_here : {d : Document} (l : Left list source tree levels first end p d q i)
        → TextFirst list source tree levels i end l.rest n
    text_here l = text_first list source tree levels i end l.rest l.stands n t.is t.within k

    pub text_asks : (n.start + n.bytes ≤ length source) × (q.at + n.bytes ≤ length q.out.now)
    text_asks =
        let f = text_here left in
        let r = room_here q (source_bytes source (span_of n)) _ (rw f.form at left_room) in
        (f.within, rw (source_length source (span_of n) f.within) at r)

    pub text_leaves : {r : Form} → Writes q (source_bytes source (span_of n)) r → Loop list source tree levels first end p r (i + n.size)
    text_leaves w = record {
      same = w.same ∙ t.loop.same;
      kept = put-length w.is ∙ t.loop.kept;
      left = λ d h.
          let l = t.loop.left d h in
          let f = text_here l in
          record { rest = f.rest; stands = f.after; puts = λ m a u. l.puts m a (rw f.form (put_then w.is u)) };
    }

-- ---- an element

-- what the symbol of a node says, where it is a tag
pub says_tag : {m : model.Symbol} {r : Symbol} {a : ℕ} → meaning r ≡ m → r ≡ variants.Tag a → m ≡ of_tag a
says_tag = means

-- node i is n, and n is tag a
pub record TagTurn (list source tree : List ℕ) (levels first end : ℕ) (p q : Form) (i : ℕ) (n : Node) (a : ℕ)
    : Type 0 where
  pub turn : Turn list source tree levels first end p q i n
  pub says : symbol_of n.symbol ≡ of_tag a

module _ {list source tree : List ℕ} {levels first end : ℕ} {p q : Form} {i : ℕ} {n : Node} {a : ℕ}
    (t : TagTurn list source tree levels first end p q i n a) where
  element_here : {d : Document} (l : Left list source tree levels first end p d q i)
      → ElementFirst list source tree levels i end l.rest n a
  element_here l =
      element_first list source tree levels i end l.rest l.stands n t.turn.is t.turn.within t.says

  abbrev element : ElementFirst list source tree levels i end (left t.turn).rest n a
  element = element_here (left t.turn)

  pub element_named : Tag list a
  element_named = element.named

  pub element_deep : 0 < levels
  element_deep = element.deep

  pub element_ends : i + n.size ≤ end
  element_ends = element.ends

  pub element_inside : ∥ Standing list source tree (levels - 1) (i + 1) (i + n.size) ∥₁
  element_inside = ∣ record { document = element.content; stands = element.inside } ∣₁

  module _ {name : List ℕ} (named : name ≡ name_of list a) where
    -- without content

    module _ (e : n.size ≡ 1) where
      empty_form : {d : Document} (l : Left list source tree levels first end p d q i)
          → writtenD list source l.rest ≡ empty_tag name ++ writtenD list source (element_here l).rest
      empty_form l = rw named ((element_here l).empty e)

      pub empty_asks : Room q (empty_tag name)
      empty_asks = room_here q (empty_tag name) _ (rw (empty_form (left t.turn)) at (left_room t.turn))

      pub empty_leaves : {r : Form} → Writes q (empty_tag name) r → Loop list source tree levels first end p r (i + n.size)
      empty_leaves w = record {
        same = w.same ∙ t.turn.loop.same;
        kept = put-length w.is ∙ t.turn.loop.kept;
        left = λ d h.
            let l = t.turn.loop.left d h in
            let f = element_here l in
            record { rest = f.rest; stands = f.after; puts = λ m a u. l.puts m a (rw (empty_form l) (put_then w.is u)) };
      }

    -- with content: its start tag, what is inside, its end tag

    module _ (e : n.size ≢ 1) where
      full_form : {d : Document} (l : Left list source tree levels first end p d q i) → writtenD list source l.rest
          ≡ start_tag name
          ++ (writtenD list source (element_here l).content ++ (end_tag name ++ writtenD list source (element_here l).rest))
      full_form l = rw named ((element_here l).full e)

      full_room : Room q (start_tag name
          ++ (writtenD list source element.content ++ (end_tag name ++ writtenD list source element.rest)))
      full_room = rw (full_form (left t.turn)) at (left_room t.turn)

      pub start_asks : Room q (start_tag name)
      start_asks = room_here q (start_tag name) _ full_room

-- ---- an element with content, once its start tag is put

pub record Opened (list source tree : List ℕ) (levels first end : ℕ) (p q : Form) (i : ℕ) (n : Node) (a : ℕ) (name : List ℕ) (r : Form)
    : Type 0 where
  pub turn : TagTurn list source tree levels first end p q i n a
  pub named : name ≡ name_of list a
  pub some : n.size ≢ 1
  pub start : Writes q (start_tag name) r

module _ {list source tree : List ℕ} {levels first end : ℕ} {p q : Form} {i : ℕ} {n : Node} {a : ℕ} {name : List ℕ} {r : Form}
    (t : Opened list source tree levels first end p q i n a name r) where
  abbrev here : ElementFirst list source tree levels i end (left t.turn.turn).rest n a
  here = element t.turn

  inside-room : Room r (writtenD list source here.content ++ (end_tag name ++ writtenD list source here.rest))
  inside-room = room_after _ t.start (full_room t.turn t.named t.some)

  pub inside_asks : ReadyAt list source tree (levels - 1) (i + 1) (i + n.size) r
  inside_asks = record {
    document = here.content;
    stands = here.inside;
    room = room_here r (writtenD list source here.content) _ inside-room;
  }

  module _ {v : Form} (inside : PutsAt list source tree (levels - 1) (i + 1) (i + n.size) r v) where
    pub end_asks : Room v (end_tag name)
    end_asks = room_here v (end_tag name) _ (room_after _ (inside here.content here.inside) inside-room)

    pub full_leaves : {w : Form} → Writes v (end_tag name) w → Loop list source tree levels first end p w (i + n.size)
    full_leaves e =
        let within = inside here.content here.inside in
        record {
          same = e.same ∙ within.same ∙ t.start.same ∙ t.turn.turn.loop.same;
          kept = put-length e.is ∙ put-length within.is ∙ put-length t.start.is ∙ t.turn.turn.loop.kept;
          left = λ d h.
              let l = t.turn.turn.loop.left d h in
              let f = element_here t.turn l in
              let form = full_form t.turn t.named t.some l in
              record {
                rest = f.rest;
                stands = f.after;
                puts = λ m a u.
                    l.puts m a (rw form (put_then t.start.is (put_then (inside f.content f.inside).is (put_then e.is u))));
              };
        }

-- ---- along the siblings

-- the loop at the siblings that are left
pub record Along (s it : Siblings) (p q : Form) : Type 0 where
  pub sources : it.sources ≡ s.sources
  pub end : it.end ≡ s.end
  pub loop : Loop s.sources.now.list.now s.sources.now.text.now s.sources.now.tree.now s.levels s.first s.end p q it.first

abbrev pub node_of : Siblings → ℕ → Node
node_of s i = node_at s.sources.now.tree.now i

abbrev pub TurnOf : Siblings → (p q : Form) (i : ℕ) → Node → Type 0
TurnOf s p q i n = let f = s.sources.now in Turn f.list.now f.text.now f.tree.now s.levels s.first s.end p q i n

abbrev pub TagTurnOf : Siblings → (p q : Form) (i : ℕ) → Node → (a : ℕ) → Type 0
TagTurnOf s p q i n a = let f = s.sources.now in TagTurn f.list.now f.text.now f.tree.now s.levels s.first s.end p q i n a

module _ {s it : Siblings} {p q : Form} (l : Along s it p q) where
  pub along_end : it.end ≤ it.first → Puts s p q
  along_end h = loop_end l.loop (omega (arith, l.end))

  module _ {i : ℕ} {rest : Siblings} (x : NodeNext it i rest) where
    pub turn : Ready s p → {n : Node} → n ≡ node_of s i → TurnOf s p q i n
    turn r e = record { ready = r; loop = rw (← x.is) at l.loop; within = omega (arith, l.end, x.within); is = e }

    pub along_next : {r : Form} {n : Node} → n ≡ node_of s i
        → (let f = s.sources.now in Loop f.list.now f.text.now f.tree.now s.levels s.first s.end p r (i + n.size)) → Along s rest p r
    along_next {n = n} e k =
        let moved : rest.first ≡ i + n.size = rw (x.first, l.sources, e) in
        record { sources = x.sources ∙ l.sources; end = x.end ∙ l.end; loop = rw moved k }
