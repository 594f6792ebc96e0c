-- `all_below` meets its contract.
use Rattle.sets.proofs.SetLaws.{shifted_all, every-number}
use borrow.Author.Rules.{rules}
use Rattle.sets.proofs.all_below.Goals as goal

pub returns : goal.returns
returns c = search (shifted_all, every-number, rules)
