-- `sheet_rules::rules` meets its contract.
use Rattle.sheet_rules.proofs.PlaceLaws.{Noting}
use Rattle.sheet_rules.proofs.rules.Given as goal

abbrev pub invariant-loop-i : goal.invariant-loop-i
invariant-loop-i l = Noting l.p l.g l.n l.initial.walk l.walk l.places l.i
