-- `of_judgement` meets its contract: the line of the answer's numbers is its own.
use mathlib.Core.Path.{◌∙◌}
use Rattle.line.proofs.WordLaws.{line-said}
use Rattle.line.proofs.of_judgement.Goals as goal

pub returns-clause-bytes : goal.returns-clause-bytes
returns-clause-bytes c = c.copy_to.ensures.bytes ∙ rw (c.from-2.ensures, c.from.ensures, line-said)

pub returns-clause-out : goal.returns-clause-out
returns-clause-out c = c.copy_to.ensures.out ∙ rw (c.from-2.ensures, c.from.ensures, line-said)
