-- `text` ends, and goes back nowhere.
use Rattle.std.proofs.Common.{◌≤◌, length}
use Rattle.cases_scan.proofs.tokens.Tokens.text.Given as goal

abbrev pub invariant-loop : goal.invariant-loop
invariant-loop l = length l.end.written.now ≤ length l.text.written.now

abbrev pub decreases-loop : goal.decreases-loop
decreases-loop l = length l.end.written.now
