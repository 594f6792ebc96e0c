-- `read_runs::name_length` meets its contract.
use borrow.Author.Rules.{rules}
use Rattle.read_runs.specs.Runs.{class_within}
use Rattle.read_runs.proofs.RunLaws.{name_by}
use Rattle.read_runs.proofs.name_length.Goals as goal

pub returns : goal.returns
returns c = c.run_length.ensures (class_within 1 3) (λ x b r e p. search (rules, name_by x b e))
