-- `bits_below` meets its contract.
use borrow.Author.Rules.{rules}
use Rattle.sheet_walk.proofs.Walk.bits_below.Goals as goal

pub returns : goal.returns
returns c = c.word.ensures _ (λ w b small called. search rules)
