-- What the loop of `put_step` keeps.
use mathlib.Core.List.{map}
use Prim.Native.Nat.{◌+◌}
use lib.ListN.{drop}
use Rattle.page.proofs.PageLaws.{Left}
use Rattle.join_count.proofs.Lift.put_step.Given as goal

abbrev pub invariant-loop-number : goal.invariant-loop-number
invariant-loop-number l =
    let shifted = map (λ i. l.self.shift + i) in
    Left l.initial.page (shifted l.number-items) l.page (shifted (drop l.number-index l.number-items))
