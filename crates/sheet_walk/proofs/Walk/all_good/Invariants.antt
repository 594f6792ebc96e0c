-- `all_good` meets its contract.
use Rattle.std.proofs.Common.{Bool, ℕ}
use Rattle.model.specs.Sheet.{word}
use Rattle.sheet_walk.specs.Walks.{Tests}
use Rattle.sheet_walk.proofs.WalkLaws.{Leads}
use Rattle.sheet_walk.proofs.Walk.all_good.Given as goal

abbrev pub invariant-loop : goal.invariant-loop
invariant-loop g l = (ok : ℕ → Bool) → Tests (goal.F-post g l.good) ok → Leads (λ i. word ok) l.n l.counter l.initial.walk l.walk
