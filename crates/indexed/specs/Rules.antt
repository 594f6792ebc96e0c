-- The rule that a spot is of, and where its parts are.
use Rattle.std.specs.Prelude.{◌≡◌, List, ◌+◌, length, Option}
use Rattle.std.specs.Option.{MatchOption}
use Rattle.std.proofs.Math.Option.{none, some}
use Rattle.model.specs.Sheet.{Order, Step, Rule}
use Rattle.model.specs.Spans.{OrderAt, CountAt, order_part}
use Rattle.model.specs.Index.{sheet_in}
use Rattle.indexed.specs.declared.Spot.{Spot}
use Rattle.indexed.specs.declared.Part.{Part}
use Rattle.indexed.specs.Spots.{rule_in, parts_of}

-- the rule of a spot
abbrev pub rule_of : Spot → Rule
rule_of x = rule_in x.sheet.words.now x.rule

-- the rule has an order part, after its first word
pub record OrderIn (x : Spot) (part : Part) : Type 0 where
  pub words : part.words ≡ x.sheet.words
  pub at : part.at ≡ x.at + 1
  pub order : Order
  pub has : (parts_of (rule_of x)).order ≡ some order
  pub there : OrderAt (sheet_in part.words.now).states part.words.now part.at order

-- the rule has a count part, after its order part
pub record CountIn (x : Spot) (part : Part) : Type 0 where
  pub words : part.words ≡ x.sheet.words
  pub at : part.at ≡ x.at + 1 + length (order_part (parts_of (rule_of x)).order)
  pub steps : List Step
  pub has : (parts_of (rule_of x)).count ≡ some steps
  pub there : CountAt (sheet_in part.words.now).states part.words.now part.at steps

-- the part, if there is one
abbrev pub OrderPartOf : Spot → Option Part → Type 0
OrderPartOf x r = MatchOption r ((parts_of (rule_of x)).order ≡ none) (OrderIn x)

abbrev pub CountPartOf : Spot → Option Part → Type 0
CountPartOf x r = MatchOption r ((parts_of (rule_of x)).count ≡ none) (CountIn x)
