-- `number` goes back nowhere.
use Rattle.std.proofs.Common.{◌≤◌, length}
use Rattle.cases_scan.proofs.tokens.Tokens.number.Given as goal

abbrev pub invariant-loop-i : goal.invariant-loop-i
invariant-loop-i l = length l.self.rest.now ≤ length l.initial.self.rest.now
