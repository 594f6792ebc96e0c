-- What the functions on order parts are lent, and what they find, in the model's terms.
use Rattle.std.specs.Prelude.{◌≡◌, Bool, List, [], ◌∷◌, map, ℕ, ◌-◌, ◌≤◌, ◌<◌, length, get_or}
use Rattle.std.proofs.Math.Option.{some}
use Rattle.model.specs.Sheet.{Order, order_words, OrderInRange, arc_of}
use Rattle.model.specs.Words.{last_set, fits_order, reads_from}
use Rattle.model.specs.Words as words
use Rattle.bits.specs.Stands.{Stands}

-- ---- children

-- state words (state + 1) of children that all have states, and these states
pub record StateWords (words : List ℕ) : Type 0 where
  pub each : (k : ℕ) → k < length words → (1 ≤ get_or words k 0) × (get_or words k 0 ≤ 64)
  pub few : length words ≤ 4096

unfoldable pub states_of : List ℕ → List ℕ
states_of words = map (λ x. x - 1) words

-- ---- order parts

-- the words of an order part within its ranges
pub record OrderPart (part : List ℕ) : Type 0 where
  pub states : ℕ
  pub order : Order
  pub few_states : states ≤ 64
  pub in_range : OrderInRange states order
  pub coded : part ≡ order_words order

-- words of arcs that enter positions below 64
abbrev pub ArcWords : List ℕ → Type 0
ArcWords arcs = (k : ℕ) → k < length arcs → (arc_of (get_or arcs k 0)).enters < 64

-- the positions after the last child that is read, and how many children are read
pub record Read (arcs words : List ℕ) (set reads : ℕ) : Type 0 where
  pub last : Stands set (last_set (map arc_of arcs) (0 ∷ []) (states_of words))
  pub count : reads ≡ reads_from (map arc_of arcs) (0 ∷ []) (states_of words)
  pub within : reads ≤ length words

-- whether an order part fits the child states w, and how many of them it reads, at most all
pub record OrderSays (part w : List ℕ) (fits : Bool) (reads : ℕ) : Type 0 where
  pub fitting : (h : OrderPart part) → fits ≡ fits_order (some h.order) w
  pub reading : (h : OrderPart part) → reads ≡ words.reads (some h.order) w
  pub within : reads ≤ length w
