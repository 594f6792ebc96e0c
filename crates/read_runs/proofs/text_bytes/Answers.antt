-- `read_runs::text_bytes` meets its contract.
use borrow.Author.Rules.{rules}
use Rattle.chars.proofs.ClassLaws.{text_by_class}
use Rattle.model.specs.Written.{text_byte}
use Rattle.read_runs.proofs.text_bytes.Goals as goal

pub returns : goal.returns
returns c = c.run_length.ensures text_byte (λ x b r e p. search (rules, text_by_class x b e))
