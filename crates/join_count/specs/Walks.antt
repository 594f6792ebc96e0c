-- The steps of a count part one after the other.
use Rattle.std.specs.Prelude.{◌≡◌, ℕ, ◌+◌, Option}
use Rattle.std.specs.Option.{MatchOption}
use Rattle.std.specs.Borrow.{Bor}
use mathlib.Core.List.{List, ◌∷◌}
use Rattle.model.specs.Sheet.{Step, step_words, StepInRange}
use Rattle.join_count.specs.declared.Steps.{Steps}
use Rattle.join_count.specs.Counts.{StepsFrom}

-- the steps over p states that are left
abbrev pub steps_left : ℕ → Steps → List Step → Type 0
steps_left p x ss = StepsFrom p x.words.now x.at x.left ss

-- The words given are those of the first step that is left, and then the others are.
pub record FirstStep (p : ℕ) (ss : List Step) (ws : List ℕ) (y : Steps) : Type 0 where
  pub step : Step
  pub others : List Step
  pub split : ss ≡ step ∷ others
  pub is : ws ≡ step_words p step
  pub ranges : StepInRange p 32 step
  pub left : steps_left p y others

pub record StepNext (x : Steps) (ws : List ℕ) (y : Steps) : Type 0 where
  pub first : (p : ℕ) (ss : List Step) → steps_left p x ss → FirstStep p ss ws y
  pub fewer : x.left ≡ y.left + 1

abbrev pub NextStep : Steps → Option (Bor (List ℕ)) → Steps → Type 0
NextStep x r y = MatchOption r (x.left ≡ 0) (λ ws. StepNext x ws.now y)
