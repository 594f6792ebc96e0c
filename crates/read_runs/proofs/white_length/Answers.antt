-- `read_runs::white_length` meets its contract.
use borrow.Author.Rules.{rules}
use Rattle.read_runs.specs.Runs.{class_within}
use Rattle.read_runs.proofs.RunLaws.{white_by}
use Rattle.read_runs.proofs.white_length.Goals as goal

pub returns : goal.returns
returns c = c.run_length.ensures (class_within 0 0) (λ x b r e p. search (rules, white_by x b e))
