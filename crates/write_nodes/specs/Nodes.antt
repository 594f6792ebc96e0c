-- A tree's nodes by their words, and the tags of a name list.
use Rattle.std.specs.Prelude.{◌≡◌, List, ℕ, ◌≤◌}
use Rattle.model.specs.Answers.{passes}
use Rattle.model.specs.Names.{names_of}
use Rattle.model.specs.Tree.{Span, symbol_at, size_at, span_at, of_tag, symbol_of}
use Rattle.write_nodes.specs.declared.Node.{Node}

-- the four words of node i
abbrev pub node_at : List ℕ → ℕ → Node
node_at tree i = record { symbol = symbol_at tree i; size = size_at tree i; start = (span_at tree i).start; bytes = (span_at tree i).bytes }

abbrev pub span_of : Node → Span
span_of n = record { start = n.start; bytes = n.bytes }

-- a tag of a checked name list
pub record Tag (list : List ℕ) (a : ℕ) : Type 0 where
  pub tags : ℕ
  pub names : names_of list ≡ passes tags
  pub some : 1 ≤ a
  pub few : a ≤ tags

-- where a symbol says a tag, it is such a tag
abbrev pub TagOf : List ℕ → ℕ → Type 0
TagOf list s = (a : ℕ) → symbol_of s ≡ of_tag a → Tag list a
