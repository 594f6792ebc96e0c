-- `map` meets its contract: a rule begins within the sheet's words.
use native.Mathlib.Omega.{arith}
use Rattle.indexed.proofs.RuleParts.{spot-there}
use Rattle.indexed.proofs.Spot.map.Goals as goal

pub bounds-self-self : goal.bounds-self-self
bounds-self-self c = omega (arith, spot-there c.args.self.now)
