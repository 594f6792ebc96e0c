-- `repeat_each` meets its contract.
use lib.ListN.{drop}
use Rattle.page.specs.Page.{repeated_each}
use Rattle.page.proofs.PageLaws.{Left}
use Rattle.page.proofs.Page.repeat_each.Given as goal

abbrev pub invariant-loop-w : goal.invariant-loop-w
invariant-loop-w l = Left l.initial.self (repeated_each l.n l.words) l.self (repeated_each l.n (drop l.w-index l.words))
