-- The steps of two count parts in one.
use Rattle.std.specs.Prelude.{List, [], ◌∷◌, ◌++◌, map, ◌+◌, ◌-◌, length}
use Rattle.model.specs.Sheet.{Step, and_step}
use Rattle.model.specs.Compose.{S, T, Sizes, lift_step}

-- two count parts, both lifted, S first, closed by an and
abbrev pub joint_steps : Sizes → List Step → List Step → List Step
joint_steps n ss ts =
    map (lift_step S n 0) ss ++ (map (lift_step T n (length ss)) ts ++ (and_step (length ss - 1) (length ss + (length ts - 1)) ∷ []))
