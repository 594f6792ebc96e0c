-- `Numbers::from` a judgement meets its contract, case by case.
use Rattle.model.specs.Answers.{said_judgement}
use Rattle.answers.proofs.NumbersFromResultVerdictRefusal.from.Goals as goal

pub returns-in-Ok : goal.returns-in-Ok
unfolding said_judgement
returns-in-Ok c = rw c.in-Ok.is c.from.ensures

pub returns-in-Err : goal.returns-in-Err
unfolding said_judgement
returns-in-Err c = rw c.in-Err.is c.from-in-Err.ensures
