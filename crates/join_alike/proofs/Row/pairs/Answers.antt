-- `pairs` meets its contract: the rules with the rule's key make all joint rules of the row.
use Rattle.model.specs.Index.{rules_in}
use Rattle.join_alike.proofs.AlikeLaws.{alike_all}
use Rattle.join_alike.proofs.Row.pairs.Goals as goal

pub returns-clause-all : goal.returns-clause-all
returns-clause-all c = rw c.chain.ensures.all (alike_all _ _ c.key.ensures.is (rules_in c.args.self.now.others.words.now))
