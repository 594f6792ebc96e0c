-- `Numbers::from` a verdict meets its contract, case by case.
use Rattle.model.specs.Answers.{said_verdict}
use Rattle.answers.proofs.NumbersFromVerdict.from.Goals as goal

pub returns-in-Accepted : goal.returns-in-Accepted
unfolding said_verdict
returns-in-Accepted c = rw (c.in-Accepted.is, c.from.ensures, c.from-in-Accepted.ensures)

pub returns-in-Refused : goal.returns-in-Refused
unfolding said_verdict
returns-in-Refused c = rw (c.in-Refused.is, c.from-in-Refused.ensures, c.from-in-Refused-2.ensures)

pub returns-in-Stuck : goal.returns-in-Stuck
unfolding said_verdict
returns-in-Stuck c = rw (c.in-Stuck.is, c.from-in-Stuck.ensures)
