-- `below` meets its contract.
use borrow.Author.Rules.{rules}
use Rattle.model.specs.Sheet.{below}
use Rattle.sheet_walk.proofs.WalkLaws.{past_bad, past_value}
use Rattle.sheet_walk.proofs.Walk.below.Goals as goal

pub returns-in_err-word : goal.returns-in_err-word
returns-in_err-word c =
    past_bad (c.word.ensures (below c.args.n) (λ w b small called. search rules)) c.in_err-word.was c.from_residual.ensures

pub returns : goal.returns
returns c = past_value (c.word.ensures (below c.args.n) (λ w b small called. search rules)) c.in_ok-word.was
