-- The parts of the joint rule of two rules, and its words.
use Rattle.std.specs.Prelude.{◌||◌, ℕ}
use mathlib.Core.List.{List, flat_map}
use Rattle.model.specs.Sheet.{rule_words}
use Rattle.model.specs.Spans.{Content, there_is, map_of, order_part, count_part}
use Rattle.model.specs.Compose.{pair, of_pairs, joint_order, joint_count}
use Rattle.indexed.specs.declared.Spot.{Spot}
use Rattle.indexed.specs.Spots.{parts_of}
use Rattle.indexed.specs.Rules.{rule_of}
use Rattle.join_pairs.specs.Sides.{sizes_of}
use Rattle.join_alike.specs.declared.RulePair.{RulePair}
use Rattle.join_alike.specs.Alike.{pair_joint}

-- the parts of a spot's rule
abbrev pub parts_in : Spot → Content
parts_in x = parts_of (rule_of x)

abbrev pub target_in : RulePair → ℕ
target_in r = pair (sizes_of r.sizes).of_T (parts_in r.s).target (parts_in r.t).target

-- with an order part if one of them has one, and with a count part likewise
abbrev pub map_in : RulePair → ℕ
map_in r =
    let x = parts_in r.s in
    let y = parts_in r.t in
    map_of (there_is x.order || there_is y.order) (there_is x.count || there_is y.count)

abbrev pub order_in : RulePair → List ℕ
order_in r = order_part (joint_order (sizes_of r.sizes) (parts_in r.s).order (parts_in r.t).order)

abbrev pub count_in : RulePair → List ℕ
count_in r = count_part (of_pairs (sizes_of r.sizes)) (joint_count (sizes_of r.sizes) (parts_in r.s).count (parts_in r.t).count)

-- all its words
abbrev pub pair_words : RulePair → List ℕ
pair_words r = flat_map (rule_words (of_pairs (sizes_of r.sizes))) (pair_joint r)
