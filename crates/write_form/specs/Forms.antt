-- The form of the document that stands in the words of a tree, put into a buffer.
use Rattle.std.specs.Prelude.{◌≡◌, List, ℕ, ◌+◌, ◌≤◌, ◌<◌, Option}
use Rattle.std.specs.Option.{MatchOption}
use Rattle.model.specs.Tree.{Document, size_at}
use Rattle.model.specs.Written.{writtenD}
use Rattle.write_bytes.specs.Put.{Room, Writes}
use Rattle.write_bytes.specs.declared.Form.{Form}
use Rattle.write_form.specs.Stands.{Stands}
use Rattle.write_form.specs.declared.Siblings.{Siblings}

-- a document stands from node i up to node `end`, and there is room for it in a form
pub record ReadyAt (list text tree : List ℕ) (levels i end : ℕ) (p : Form) : Type 0 where
  pub document : Document
  pub stands : Stands list text tree levels i end document
  pub room : Room p (writtenD list text document)

-- the document that stands there, whichever it is, leads from one form to another
abbrev pub PutsAt : (list text tree : List ℕ) (levels i end : ℕ) (p q : Form) → Type 0
PutsAt list text tree levels i end p q = (d : Document) → Stands list text tree levels i end d → Writes p (writtenD list text d) q

-- ---- the document of siblings

abbrev pub Ready : Siblings → Form → Type 0
Ready s p = let f = s.sources.now in ReadyAt f.list.now f.text.now f.tree.now s.levels s.first s.end p

abbrev pub Puts : Siblings → (p q : Form) → Type 0
Puts s p q = let f = s.sources.now in PutsAt f.list.now f.text.now f.tree.now s.levels s.first s.end p q

-- the first of the siblings, if there is one, and those after it
pub record NodeNext (s : Siblings) (i : ℕ) (t : Siblings) : Type 0 where
  pub is : i ≡ s.first
  pub within : i < s.end
  pub sources : t.sources ≡ s.sources
  pub end : t.end ≡ s.end
  pub first : t.first ≡ i + size_at s.sources.now.tree.now i

abbrev pub NextNode : Siblings → Option ℕ → Siblings → Type 0
NextNode s r t = MatchOption r (s.end ≤ s.first) (λ i. NodeNext s i t)
