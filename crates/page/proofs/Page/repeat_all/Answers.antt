-- `repeat_all` meets its contract.
use Rattle.page.proofs.PageLaws.{more, done, repeated-next, repeated_none}
use borrow.Author.Rules.{rules}
use Rattle.page.proofs.Page.repeat_all.Goals as goal

pub loop-preserved : goal.loop-preserved
loop-preserved c = search (more, repeated-next, rules)

pub returns : goal.returns
returns c = search (done, repeated_none, rules)
