-- `sheet_order::arc_good` meets its contract.
use borrow.Author.Rules.{rules}
use Rattle.sheet_walk.proofs.WordTests.{arc_test}
use Rattle.sheet_order.proofs.arc_good.Goals as goal

pub returns : goal.returns
returns c = search (arc_test, rules)
