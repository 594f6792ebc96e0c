-- `pair_row` meets its contract.
use Rattle.page.proofs.PageLaws.{more, done, rest_next, rest_none, row_next, row_none}
use borrow.Author.Rules.{rules}
use Rattle.join_order.proofs.pair_row.Goals as goal

pub loop-w-preserved : goal.loop-w-preserved
loop-w-preserved c = search (more, row_next, rest_next, rules)

pub returns : goal.returns
returns c = search (done, row_none, rest_none, rules)
