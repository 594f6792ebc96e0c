-- `below` meets its contract.
use Rattle.sets.proofs.SetLaws.{below-is}
use borrow.Author.Rules.{rules}
use Rattle.sets.proofs.below.Goals as goal

pub returns : goal.returns
returns c = search (below-is, rules)
