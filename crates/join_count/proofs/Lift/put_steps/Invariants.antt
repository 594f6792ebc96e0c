-- What the loop of `put_steps` keeps.
use mathlib.Core.List.{List, map, flat_map}
use Prim.Native.Nat.{ℕ}
use Rattle.model.specs.Sheet.{Step, step_words}
use Rattle.model.specs.Spans.{CountAt}
use Rattle.page.proofs.PageLaws.{Left}
use Rattle.join_pairs.specs.Sides.{own_states, pairs_of}
use Rattle.join_count.specs.Steps.{lifts}
use Rattle.join_count.specs.Walks.{steps_left}
use Rattle.join_count.proofs.Lift.put_steps.Given as goal

-- the rest of the steps is left to write
abbrev pub invariant-loop-step : goal.invariant-loop-step
invariant-loop-step l =
    let p = own_states l.fn.self.half in
    let lifted : List Step → List ℕ = λ ss. flat_map (step_words (pairs_of l.fn.self.half)) (map (lifts l.fn.self) ss) in
    (goal.iterator-loop-step).can_next l.step-iterator
    × (goal.iterator-loop-step).is_finite l.step-iterator
    × ((ss : List Step) → CountAt p l.fn.part.words.now l.fn.part.at ss
    → (rest : List Step) × steps_left p l.step-iterator rest × Left l.initial.page (lifted ss) l.page (lifted rest))
