-- `complement` meets its contract.
use Rattle.sets.proofs.SetLaws.{some_of_all, complement-is}
use borrow.Author.Rules.{rules}
use Rattle.sets.proofs.complement.Goals as goal

pub overflow_sub-result : goal.overflow_sub-result
overflow_sub-result c = some_of_all _ _ c.all_below.ensures c.below.ensures

pub returns : goal.returns
returns c = search (complement-is, rules)
