-- `target_state` meets its contract: the target is a rule's last word.
use Rattle.indexed.proofs.RuleParts.{target-here}
use Rattle.indexed.proofs.Spot.target_state.Goals as goal

pub bounds-self-self : goal.bounds-self-self
bounds-self-self c = (target-here c.args.self.now).2

pub returns-clause-is : goal.returns-clause-is
returns-clause-is c = (target-here c.args.self.now).0

pub returns-clause-few : goal.returns-clause-few
returns-clause-few c = (target-here c.args.self.now).1
