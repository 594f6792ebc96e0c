-- `repeat_all` meets its contract.
use Prim.Native.Nat.{◌-◌}
use Rattle.page.specs.Page.{repeated}
use Rattle.page.proofs.PageLaws.{Left}
use Rattle.page.proofs.Page.repeat_all.Given as goal

abbrev pub invariant-loop : goal.invariant-loop
invariant-loop l = Left l.initial.self (repeated l.n l.words) l.self (repeated (l.n - l.counter) l.words)
