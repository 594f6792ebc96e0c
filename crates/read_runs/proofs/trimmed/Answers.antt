-- `read_runs::trimmed` meets its contract: the bytes behind the last that isn't white are white.
use mathlib.Core.Path.{sym, ◌∙◌}
use Prim.Native.Nat.{◌+◌}
use native.Mathlib.Omega.{arith}
use borrow.Author.Rules.{rules}
use Rattle.read_runs.specs.Runs.{trim}
use Rattle.read_runs.proofs.RunLaws.{trim_back, trim_stops}
use Rattle.read_runs.proofs.trimmed.Goals as goal

pub returns-in-Some : goal.returns-in-Some
returns-in-Some c =
    let bytes = c.args.bytes.now in
    let last = c.in-Some.last in
    sym (trim_stops bytes last (search rules) (search rules)) ∙ trim_back bytes (last + 1) (search rules) (search rules)

pub returns-in-None : goal.returns-in-None
unfolding trim
returns-in-None c = trim_back c.args.bytes.now 0 (omega arith) (search rules)
