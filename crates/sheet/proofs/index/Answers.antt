-- `sheet::index` meets its contract.
use borrow.Author.Rules.{rules}
use Rattle.sheet.proofs.Answers.{passes_counted, index-refused, index_left}
use Rattle.sheet.proofs.index.Goals as goal

pub returns-in_err-n-clause-index : goal.returns-in_err-n-clause-index
returns-in_err-n-clause-index c = (index-refused _ c.check_noting.ensures.answer _ c.in_err-n.was).1

pub chain-requires-clause-places : goal.chain-requires-clause-places
chain-requires-clause-places c =
    let ok = passes_counted _ c.check_noting.ensures.answer c.in_ok-n.was in
    record { sheet = ok; noted = c.check_noting.ensures.places.noted ok; room = search rules }

pub returns-clause-index : goal.returns-clause-index
returns-clause-index c = (index_left _ c.check_noting.ensures.answer _ c.in_ok-n.was c.chain.ensures).1
