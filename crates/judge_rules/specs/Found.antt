-- What the rules of a sheet give together: a set of states, and the looks for it.
use Rattle.std.specs.Prelude.{◌≡◌, ℕ, ◌+◌, ◌^◌, ◌≤◌}
use mathlib.Core.List.{List, flat_map}
use Rattle.model.specs.Sheet.{Rule}
use Rattle.model.specs.Run.{at_tag, of_kind, unless_none}
use Rattle.bits.specs.Stands.{Stands}
use Rattle.judge_rules.specs.declared.targets.Found.{Found}

-- these states, and this number of looks, which is within a limit
pub record Finds (limit : ℕ) (f : Found) (l : List ℕ) (n : ℕ) : Type 0 where
  pub reached : Stands f.targets l
  pub number : f.looks ≡ n
  pub few : f.looks ≤ limit

-- what an element with this tag reaches, by what its content reaches
pub record TagFinds (R : List Rule) (tag : ℕ) (inside f : Found) : Type 0 where
  pub found : (l : List ℕ) (n : ℕ) → Finds (2 ^ 42) inside l n
      → Finds (2 ^ 43) f (flat_map (at_tag tag l) R) (n + unless_none l (of_kind 2 R))
