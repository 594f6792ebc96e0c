-- `is_empty` meets its contract: the end is reached.
use borrow.Author.Tests.{leb-true, leb-false}
use Rattle.judge_node.proofs.ChildLaws.{words_end, words-some}
use Rattle.judge_node.proofs.children.ChildWords.is_empty.Goals as goal

pub returns-clause-none : goal.returns-clause-none
returns-clause-none c e = words_end c.args.self.now (leb-true _ _ e)

pub returns-clause-some : goal.returns-clause-some
returns-clause-some c e = words-some c.args.self.now (leb-false _ _ e)
