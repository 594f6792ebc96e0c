-- A node of a tree, as its words tell it: its children's state words, and what the run makes of it.
use Rattle.std.specs.Prelude.{◌≡◌, cond, List, [], ◌∷◌, ℕ, zero, suc, ◌+◌, ◌-◌, ◌*◌, ◌≤◌, ◌<◌, ltb, length, get_or, drop}
use Rattle.std.proofs.Math.Option.{Option, none, some}
use Rattle.model.specs.Tree.{symbol_at, size_at}
use Rattle.model.specs.Sheet.{Rule}
use Rattle.model.specs.Run.{text_targets, content_targets, element_targets, of_kind, tries, unless_one, element_looks, items, child_words}
use Rattle.model.specs.Run.{child_states}

-- each node has a size, and with what is inside it is in the tree
pub record Sizes (tree : List ℕ) : Type 0 where
  pub each : (i : ℕ) → 4 * (i + 1) ≤ length tree → (1 ≤ size_at tree i) × (4 * (i + size_at tree i) ≤ length tree)

-- the size of node i
pub record Sized (tree : List ℕ) (i size : ℕ) : Type 0 where
  pub is : size ≡ size_at tree i
  pub some : 1 ≤ size
  pub within : 4 * (i + size) ≤ length tree

-- n nodes, each of them with a symbol of a tag or a text, and with a size
pub record Shaped (tree : List ℕ) (n : ℕ) : Type 0 where
  pub long : length tree ≡ 4 * n
  pub all : length (items tree) ≡ n
  pub few : n ≤ 4096
  pub symbols : (i : ℕ) → i < n → (1 ≤ symbol_at tree i) × (symbol_at tree i ≤ 66)
  pub sizes : Sizes tree

-- the state words of the nodes from i on: at most 64 states, and 0
pub record Small (i : ℕ) (states : List ℕ) : Type 0 where
  pub each : (k : ℕ) → i ≤ k → get_or states k 0 ≤ 64

-- the state words of the elements side by side from node `first` up to node `end`
abbrev pub words_between : (tree states : List ℕ) (first end : ℕ) → List ℕ
words_between tree states first end = child_words (end - first) 0 (drop first (items tree)) (drop first states)

-- those of the children of node i
abbrev pub words_inside : (tree states : List ℕ) (i : ℕ) → List ℕ
words_inside tree states i = words_between tree states (i + 1) (i + size_at tree i)

-- the states that content of one child reaches, by that child's state word: its state, if it has one
abbrev pub lone_states : ℕ → List ℕ
lone_states zero = []
lone_states (suc q) = q ∷ []

-- what content reaches whose children have these states, and the looks for it; nothing where a child has none
unfoldable pub inside_targets : List Rule → Option (List ℕ) → List ℕ
inside_targets R none = []
inside_targets R (some w) = content_targets R w

unfoldable pub inside_looks : List Rule → Option (List ℕ) → ℕ
inside_looks R none = 0
inside_looks R (some w) = unless_one w (tries R w)

-- the states that node i reaches, and the looks that it takes
unfoldable pub node_targets : List Rule → (tree states : List ℕ) (i : ℕ) → List ℕ
node_targets R tree states i =
    cond (ltb 64 (symbol_at tree i)) (text_targets R (symbol_at tree i - 64))
    (element_targets R (symbol_at tree i) (child_states (words_inside tree states i)))

unfoldable pub node_looks : List Rule → (tree states : List ℕ) (i : ℕ) → ℕ
node_looks R tree states i =
    cond (ltb 64 (symbol_at tree i)) (of_kind 1 R) (element_looks R (child_states (words_inside tree states i)))
