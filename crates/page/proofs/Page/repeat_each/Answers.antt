-- `repeat_each` meets its contract.
use mathlib.Core.List.{flat_map}
use Rattle.model.proofs.PartLaws.{each_none}
use Rattle.page.proofs.PageLaws.{more, done, rest_next, rest_none}
use borrow.Author.Rules.{rules}
use Rattle.page.proofs.Page.repeat_each.Goals as goal

pub loop-w-preserved : goal.loop-w-preserved
unfolding flat_map
loop-w-preserved c = search (more, rest_next, rules)

pub returns : goal.returns
returns c = search (done, each_none, rest_none, rules)
