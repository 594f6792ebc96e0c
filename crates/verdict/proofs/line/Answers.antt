-- `line` meets its contract: it is the line of what `check` answers.
use Rattle.model.specs.Line.{formcheck_line}
use Rattle.verdict.proofs.line.Goals as goal

pub returns : goal.returns
unfolding formcheck_line
returns c = rw (← c.check.ensures) c.of_judgement.ensures
