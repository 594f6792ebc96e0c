-- `offsets::line_length` meets its contract: no byte before the first line feed is one.
use mathlib.Core.Path.{sym}
use borrow.Author.Rules.{rules}
use Rattle.offsets.proofs.Scan.{line_fed, line_unfed}
use Rattle.offsets.proofs.line_length.Goals as goal

pub returns-in-Some : goal.returns-in-Some
returns-in-Some c = sym (line_fed c.args.list.now c.in-Some.i (search rules) (search rules) (search rules))

pub returns-in-None : goal.returns-in-None
returns-in-None c = sym (line_unfed c.args.list.now (search rules))
