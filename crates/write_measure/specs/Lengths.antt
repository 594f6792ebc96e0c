-- What a node adds to the form, and the sum over the nodes of a tree.
use Rattle.std.specs.Prelude.{Bool, cond, ◌&&◌, List, ℕ, zero, suc, ◌+◌, ◌*◌, ◌/◌, ◌≤◌, ◌<◌, eqb, length, Option, Some, None}
use Rattle.model.specs.Answers.{Checked, passes, refuses, ◌>>=◌}
use Rattle.model.specs.Names.{name_of}
use Rattle.model.specs.Tree.{symbol_at, Symbol, of_tag, of_text, of_nothing, symbol_of}
use Rattle.model.specs.Written.{good_text}
use Rattle.write_nodes.specs.Nodes.{node_at, span_of, TagOf}
use Rattle.write_nodes.specs.declared.Node.{Node}

-- the bytes of <name/>, or of <name> and </name>
abbrev pub tag_bytes : List ℕ → (size : ℕ) → ℕ
tag_bytes name size = cond (eqb size 1) (3 + length name) (5 + 2 * length name)

abbrev pub blank : Node → Bool
blank n = eqb n.start 0 && eqb n.bytes 0

-- by what the node's symbol says: a tag's text words are 0, a text's are those of a trimmed text of its kind
unfoldable pub own_by : (list text : List ℕ) → Node → Symbol → Option ℕ
own_by list text n (of_tag a) = cond (blank n) (Some (tag_bytes (name_of list a) n.size)) None
own_by list text n (of_text k) = cond (good_text text k (span_of n)) (Some n.bytes) None
own_by list text n of_nothing = None

unfoldable pub own_bytes : (list text : List ℕ) → Node → Option ℕ
own_bytes list text n = own_by list text n (symbol_of n.symbol)

abbrev pub Small : Option ℕ → Type 0
Small (Some b) = b < 4294967296
Small None = Unit {0}

-- `sum` with what node i adds, or 11
unfoldable pub added : (i sum : ℕ) → Option ℕ → Checked ℕ
added i sum (Some b) = passes (sum + b)
added i sum None = refuses 11 i

-- the first of k nodes from node i on that 11 refuses, or else `sum` with the bytes of these nodes
unfoldable pub measured : (list text tree : List ℕ) → (k i sum : ℕ) → Checked ℕ
measured list text tree zero i sum = passes sum
measured list text tree (suc k) i sum = do
  more ← added i sum (own_bytes list text (node_at tree i))
  measured list text tree k (i + 1) more

-- the tags of a tree of at most 4,096 nodes are tags of a checked name list with its index
pub record Tags (list tree : List ℕ) : Type 0 where
  pub few : length tree ≤ 16384
  pub each : (i : ℕ) → i < length tree / 4 → TagOf list (symbol_at tree i)
