-- How large a rule of one of the two sheets is, and the joint rule of two.
use Rattle.std.specs.Prelude.{◌≡◌, cond, List, map, ℕ, ◌+◌, ◌-◌, ◌*◌, ◌^◌, ◌≤◌, leb, length, get_or, Option, Some, None}
use Rattle.std.proofs.Math.Option as math
use Rattle.model.specs.Sheet.{Order, Step, Rule, one, two, three, W, members, count_words}
use Rattle.model.specs.Compose.{Side, Sizes, of_pairs, lift_step}
use Rattle.model.specs.Index.{sheet_in}
use Rattle.indexed.specs.declared.Spot.{Spot}
use Rattle.indexed.specs.Spots.{parts_of}
use Rattle.join_pairs.specs.declared.Half.{Half}
use Rattle.join_pairs.specs.Sides.{own_states}
use Rattle.join_extents.specs.declared.OrderSize.{OrderSize}
use Rattle.join_extents.specs.declared.CountSize.{CountSize}
use Rattle.join_extents.specs.declared.Extent.{Extent}

-- how many coefficients the step at index a has: one for each mark, if it is of kind 1 or 2
unfoldable pub coefficients_at : List ℕ → ℕ → ℕ
coefficients_at s a = cond (leb (get_or s a 0) 2) (length (members 64 (get_or s (a + 1) 0 + get_or s (a + 2) 0 * W))) 0

-- x is the spot of a rule of that sheet
abbrev pub OfSide : Half → Spot → Type 0
OfSide h x = (sheet_in x.sheet.words.now).states ≡ own_states h

-- ---- parts

abbrev pub order_size : math.Option Order → Option OrderSize
order_size math.none = None
order_size (math.some o) = Some (record { positions = o.positions; arcs = length o.arcs })

-- over p states
abbrev pub count_size : ℕ → math.Option (List Step) → Option CountSize
count_size p math.none = None
count_size p (math.some ss) = Some (record { steps = length ss; words = length (count_words p ss) })

-- a count part that meets none in the other sheet is lifted
abbrev pub lifted_size : Side → Sizes → math.Option (List Step) → Option CountSize
lifted_size side n math.none = None
lifted_size side n (math.some ss) = count_size (of_pairs n) (math.some (map (lift_step side n 0) ss))

-- numbers of parts that there may be, 0 where there is none
abbrev pub positions_in : Option OrderSize → ℕ
positions_in None = 0
positions_in (Some o) = o.positions

abbrev pub arcs_in : Option OrderSize → ℕ
arcs_in None = 0
arcs_in (Some o) = o.arcs

abbrev pub steps_in : Option CountSize → ℕ
steps_in None = 0
steps_in (Some c) = c.steps

abbrev pub words_in : Option CountSize → ℕ
words_in None = 0
words_in (Some c) = c.words

-- pairs of positions and of arcs, or one's arcs, each for every state of the other sheet
abbrev pub joint_order_size : Sizes → Option OrderSize → Option OrderSize → Option OrderSize
joint_order_size n None None = None
joint_order_size n None (Some y) = Some (record { positions = y.positions; arcs = y.arcs * n.of_S })
joint_order_size n (Some x) None = Some (record { positions = x.positions; arcs = x.arcs * n.of_T })
joint_order_size n (Some x) (Some y) = Some (record { positions = x.positions * y.positions; arcs = x.arcs * y.arcs })

-- The steps of both are closed by an `and`, of three words; the number of steps stands once in place of twice.
abbrev pub joint_count_size : Option CountSize → Option CountSize → Option CountSize
joint_count_size None d = d
joint_count_size (Some c) None = Some c
joint_count_size (Some c) (Some d) = Some (record { steps = c.steps + d.steps + 1; words = c.words + d.words + 2 })

-- ---- rules

-- a rule of a side's sheet, its count part lifted
abbrev pub extent_of : Side → Sizes → Rule → Extent
extent_of side n x = record { order = order_size (parts_of x).order; count = lifted_size side n (parts_of x).count }

-- a joint rule over p pairs of states
abbrev pub extent_in : ℕ → Rule → Extent
extent_in p z = record { order = order_size (parts_of z).order; count = count_size p (parts_of z).count }

-- the limits of a sheet's rule
pub record SmallOrder (o : Option OrderSize) : Type 0 where
  pub positions : positions_in o ≤ 64
  pub arcs : arcs_in o ≤ 1024

pub record SmallCount (c : Option CountSize) : Type 0 where
  pub steps : steps_in c ≤ 32
  pub words : words_in c ≤ 2 ^ 18

pub record Small (e : Extent) : Type 0 where
  pub order : SmallOrder e.order
  pub count : SmallCount e.count

-- what those of a joint rule come to at most
pub record Fits (e : Extent) : Type 0 where
  pub arcs : arcs_in e.order ≤ 2 ^ 20
  pub words : words_in e.count ≤ 2 ^ 20 - 8

abbrev pub joint_extent : Sizes → Extent → Extent → Extent
joint_extent n x y = record { order = joint_order_size n x.order y.order; count = joint_count_size x.count y.count }

-- the words of a rule that are in none of its parts
abbrev pub fixed_words : Rule → ℕ
fixed_words (one k q) = 3
fixed_words (two g c q) = 4
fixed_words (three o φ q) = 2

-- an order part has four words before its arcs
abbrev pub order_words_in : Option OrderSize → ℕ
order_words_in None = 0
order_words_in (Some o) = 4 + o.arcs

-- all words of a rule, by these and its extent
abbrev pub words_of : (fixed : ℕ) → Extent → ℕ
words_of fixed e = fixed + order_words_in e.order + words_in e.count
