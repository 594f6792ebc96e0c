-- Numbers of states with few pairs.
use Rattle.std.specs.Prelude.{◌*◌, ◌≤◌}
use Rattle.model.specs.Compose as model

-- at most 64 pairs of states
pub record FewPairs (n : model.Sizes) : Type 0 where
  pub some_S : 1 ≤ n.of_S
  pub some_T : 1 ≤ n.of_T
  pub few : n.of_S * n.of_T ≤ 64
