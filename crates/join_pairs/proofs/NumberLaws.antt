-- Bounds on products, and on numbers of states with at most 64 pairs.
use Prim.Native.Nat.{ℕ, ◌*◌, ◌≤◌}
use native.Mathlib.Nat.{le_trans, mul-le-mul_left, mul-le-mul_right}
use native.Mathlib.Omega.{arith}
use Rattle.model.specs.Compose.{Side, S, T, Sizes, of_side, of_other}
use Rattle.join_pairs.specs.Pairs.{FewPairs}

pub mul_le : (a b : ℕ) {x y : ℕ} → a ≤ x → b ≤ y → a * b ≤ x * y
mul_le a b {x} {y} h k = le_trans (mul-le-mul_right b h) (mul-le-mul_left x k)

module _ {n : Sizes} (h : FewPairs n) where
  pub few-S : n.of_S ≤ 64
  few-S = omega (arith, mul_le n.of_S 1 {x = n.of_S} (omega arith) h.some_T, h.few)

  pub few-T : n.of_T ≤ 64
  few-T = omega (arith, mul_le 1 n.of_T {y = n.of_T} h.some_S (omega arith), h.few)

  pub few_side : (side : Side) → of_side side n ≤ 64
  few_side S = few-S
  few_side T = few-T

  pub few_other : (side : Side) → of_other side n ≤ 64
  few_other S = few-T
  few_other T = few-S
