-- `coefficients` meets its contract: a step has a coefficient for each mark, if its kind is 1 or 2.
use Rattle.join_extents.proofs.LiftLaws.{none_there, some-there}
use borrow.Author.Rules.{rules}
use Rattle.join_extents.proofs.coefficients.Goals as goal

pub returns-then-at-gt-REMAINDER : goal.returns-then-at-gt-REMAINDER
returns-then-at-gt-REMAINDER c = search (none_there, rules)

pub returns : goal.returns
returns c = search (some-there, rules)
