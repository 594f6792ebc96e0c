-- The steps of count parts, and what is written of them.
use Rattle.std.specs.Prelude.{◌≡◌, ℕ}
use mathlib.Core.List.{List, map, flat_map}
use Rattle.model.specs.Sheet.{Step, step_words, StepInRange}
use Rattle.model.specs.Compose.{lift_step}
use Rattle.model.specs.Spans.{CountAt}
use Rattle.indexed.specs.declared.Part.{Part}
use Rattle.join_pairs.specs.Sides.{side_of, sizes_of, own_states, pairs_of}
use Rattle.join_count.specs.declared.Lift.{Lift}

-- the words of a step over the sheet's states, which refers to steps below 32 if any
pub record StepOf (l : Lift) (ws : List ℕ) (x : Step) : Type 0 where
  pub is : ws ≡ step_words (own_states l.half) x
  pub ranges : StepInRange (own_states l.half) 32 x

abbrev pub SomeStep : Lift → List ℕ → Type 0
SomeStep l ws = (x : Step) × StepOf l ws x

-- what is written of a step, and of the steps of a count part
abbrev pub lifts : Lift → Step → Step
lifts l = lift_step (side_of l.half.side) (sizes_of l.half.sizes) l.shift

abbrev pub LiftsStep : Lift → List ℕ → (List ℕ → Type 0) → Type 0
LiftsStep l ws Written = (x : Step) → StepOf l ws x → Written (step_words (pairs_of l.half) (lifts l x))

abbrev pub LiftsSteps : Lift → Part → (List ℕ → Type 0) → Type 0
LiftsSteps l part Written =
    (ss : List Step) → CountAt (own_states l.half) part.words.now part.at ss
    → Written (flat_map (step_words (pairs_of l.half)) (map (lifts l) ss))
