-- `any_word` meets its contract.
use borrow.Author.Rules.{rules}
use Rattle.sheet_walk.proofs.Walk.any_word.Goals as goal

pub returns : goal.returns
returns c = record {
  any = c.word.ensures _ (λ w b small called. search rules);
  small = c.word.ensures _ (λ w b small called. search rules);
}
