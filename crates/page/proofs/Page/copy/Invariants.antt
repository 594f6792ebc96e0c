-- `copy` meets its contract.
use lib.ListN.{drop}
use Rattle.page.proofs.PageLaws.{Left}
use Rattle.page.proofs.Page.copy.Given as goal

abbrev pub invariant-loop-word : goal.invariant-loop-word
invariant-loop-word l = Left l.initial.page l.words l.page (drop l.word-index l.words)
