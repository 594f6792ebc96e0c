-- Order parts among the words of the two sheets, and what is written of them: lifted and paired arcs by the words of the arcs.
use Rattle.std.specs.Prelude.{◌≡◌, List, map, ℕ, ◌*◌, ◌≤◌}
use Rattle.model.specs.Lists.{has, numbers, row, grid}
use Rattle.model.specs.Sheet.{Order, mask, arc_word, arc_of, order_words}
use Rattle.model.specs.Compose as model
use Rattle.model.specs.Compose.{of_other, lift_arc, lift_order, pair_arc, pair_order}
use Rattle.model.specs.Spans.{OrderAt}
use Rattle.join_pairs.specs.declared.Half.{Half}
use Rattle.join_pairs.specs.declared.Sizes.{Sizes}
use Rattle.join_pairs.specs.declared.Both.{Both}
use Rattle.indexed.specs.declared.Part.{Part}
use Rattle.join_pairs.specs.Sides.{side_of, sizes_of, own_states}
use Rattle.join_order.specs.declared.OrderPart.{OrderPart}

-- ---- arcs

abbrev pub lifted_arc : model.Side → model.Sizes → ℕ → ℕ → ℕ
lifted_arc side n w other = arc_word (lift_arc side n (arc_of w) other)

-- an arc, and all of some arcs, once for each state of the other sheet
abbrev pub lifted_row : model.Side → model.Sizes → ℕ → List ℕ
lifted_row side n w = row (lifted_arc side n) (numbers (of_other side n)) w

abbrev pub lifted_grid : model.Side → model.Sizes → List ℕ → List ℕ
lifted_grid side n ws = grid (lifted_arc side n) ws (numbers (of_other side n))

-- m: positions of T's part; p: states of T
abbrev pub paired_arc : (m p v w : ℕ) → ℕ
paired_arc m p v w = arc_word (pair_arc m p (arc_of v) (arc_of w))

-- ---- order parts

-- a part is an order part over p states
abbrev pub SomeOrder : ℕ → Part → Type 0
SomeOrder p x = (o : Order) × OrderAt p x.words.now x.at o

-- two parts are order parts of S and T, with at most 64 pairs of positions
pub record PairableOrders (n : Sizes) (x : Both Part) : Type 0 where
  pub of_S : Order
  pub of_T : Order
  pub at_S : OrderAt n.s x.s.words.now x.s.at of_S
  pub at_T : OrderAt n.t x.t.words.now x.t.at of_T
  pub few : of_S.positions * of_T.positions ≤ 64

-- what is written of an order part, and of two order parts
abbrev pub LiftsOrder : Half → Part → (List ℕ → Type 0) → Type 0
LiftsOrder h x Written =
    (o : Order) → OrderAt (own_states h) x.words.now x.at o
    → Written (order_words (lift_order (side_of h.side) (sizes_of h.sizes) o))

abbrev pub PairsOrders : Sizes → Both Part → (List ℕ → Type 0) → Type 0
PairsOrders n x Written =
    (o u : Order) → OrderAt n.s x.s.words.now x.s.at o → OrderAt n.t x.t.words.now x.t.at u
    → Written (order_words (pair_order (sizes_of n) o u))

-- what the code finds of an order part
pub record OrderOf (o : Order) (h : OrderPart) : Type 0 where
  pub positions : h.positions ≡ o.positions
  pub accepting : h.accepting ≡ mask o.positions (has o.accepting)
  pub arcs : h.arcs.now ≡ map arc_word o.arcs
