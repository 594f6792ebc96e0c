-- `key` meets its contract: the first two words tell the key.
use Rattle.indexed.proofs.RuleParts.{key_here}
use Rattle.indexed.proofs.Spot.key.Goals as goal

pub returns-clause-is : goal.returns-clause-is
returns-clause-is c = key_here c.args.self.now c.map.ensures c.word.ensures c.key_of.ensures.key
