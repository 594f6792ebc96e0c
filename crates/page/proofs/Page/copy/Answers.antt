-- `copy` meets its contract.
use Rattle.page.proofs.PageLaws.{begun, more, done, rest_next, rest_none}
use borrow.Author.Rules.{rules}
use Rattle.page.proofs.Page.copy.Goals as goal

pub loop-word-init : goal.loop-word-init
loop-word-init c = search (begun, rules)

pub loop-word-preserved : goal.loop-word-preserved
loop-word-preserved c = search (more, rest_next, rules)

pub returns : goal.returns
returns c = search (done, rest_none, rules)
