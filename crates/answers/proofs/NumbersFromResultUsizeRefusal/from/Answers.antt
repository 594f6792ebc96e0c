-- `Numbers::from` an answer meets its contract, case by case.
use Rattle.model.specs.Answers.{said}
use Rattle.answers.proofs.NumbersFromResultUsizeRefusal.from.Goals as goal

pub returns-in-Ok : goal.returns-in-Ok
unfolding said
returns-in-Ok c = rw c.in-Ok.is

pub returns-in-Err : goal.returns-in-Err
unfolding said
returns-in-Err c = rw c.in-Err.is c.from.ensures
