-- A rule of kind three that is tried.
use Rattle.std.specs.Prelude.{◌≡◌, Bool, ℕ, suc, ◌^◌, ◌<◌}
use mathlib.Core.List.{List}
use Rattle.model.specs.Lists.{only}
use Rattle.model.specs.Run.{at_content, looks_of}
use Rattle.indexed.specs.declared.Spot.{Spot}
use Rattle.indexed.specs.Spots.{parts_of}
use Rattle.indexed.specs.Rules.{rule_of}

-- The rule tried on the child states w: it gives its target if it fits, and takes a look and one more for each child that it reads.
pub record Tries (x : Spot) (w : List ℕ) (fits : Bool) (reads : ℕ) : Type 0 where
  pub gives : at_content w (rule_of x) ≡ only fits (parts_of (rule_of x)).target
  pub takes : looks_of w (rule_of x) ≡ suc reads
  pub few : reads < 2 ^ 32
