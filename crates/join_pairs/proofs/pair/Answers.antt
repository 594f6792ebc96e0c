-- `pair` meets its contract.
use mathlib.Core.Path.{refl}
use Prim.Native.Nat.{ℕ, ◌*◌, ◌≤◌}
use native.Mathlib.Omega.{arith}
use Rattle.join_pairs.proofs.NumberLaws.{mul_le}
use Rattle.join_pairs.proofs.pair.Goals as goal

-- either half times p
products : {p s t : ℕ} → (p ≤ 64) × (s ≤ 255) × (t ≤ 255) → (s * p ≤ 16320) × (t * p ≤ 16320)
products (h, j, k) = (mul_le _ _ j h, mul_le _ _ k h)

pub overflow_mul-result : goal.overflow_mul-result
overflow_mul-result c = omega (arith, products c.requires)

pub overflow_add-result : goal.overflow_add-result
overflow_add-result c = omega (arith, products c.requires)

pub returns : goal.returns
returns c = (refl, omega (arith, products c.requires))
