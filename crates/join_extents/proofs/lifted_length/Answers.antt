-- `lifted_length` meets its contract. The loop keeps: the steps before those that are left are measured.
use mathlib.Core.Path.{◌≡◌, refl}
use mathlib.Core.List.{List}
use Prim.Native.Nat.{ℕ, ◌-◌, ◌*◌, ◌≤◌}
use native.Mathlib.Omega.{arith}
use Rattle.join_pairs.specs.Sides.{side_of}
use Rattle.join_pairs.proofs.NumberLaws.{mul_le, few_side}
use Rattle.join_extents.specs.Extents.{coefficients_at}
use Rattle.join_extents.proofs.LiftLaws.{lifting, measure_begun, measure_more, measure_done, step_short, coefficients-few}
use Rattle.join_extents.proofs.lifted_length.Goals as goal

-- a step has few coefficients for further states
few_more : (ws : List ℕ) {coefficients w : ℕ} → coefficients ≡ coefficients_at ws 0 → w ≤ 64 → coefficients * (w - 1) ≤ 64 * 63
few_more ws e l = mul_le _ _ {x = 64} {y = 63} (omega (arith, e, coefficients-few ws 0)) (omega arith)

pub of-step-items-requires : goal.of-step-items-requires
of-step-items-requires c = (_, few_side c.args.half.sizes.few (side_of c.args.half.side), c.requires)

pub loop-step-init : goal.loop-step-init
loop-step-init c =
    let few = few_side c.args.half.sizes.few (side_of c.args.half.side) in
    (tt, tt, rw c.into_iter-step-iterator.ensures.into_iter_gives (measure_begun c.of-step-items.ensures few c.requires.1))

pub overflow_mul-lifted : goal.overflow_mul-lifted
overflow_mul-lifted c =
    let (_, _, few) = lifting (side_of c.args.half.side) c.args.half.sizes.few c.other.ensures in
    omega (arith, few_more _ c.coefficients.ensures few)

pub overflow_add-lifted : goal.overflow_add-lifted
overflow_add-lifted c =
    let (_, _, inv) = c.loop-step.invariant in
    let (z, _, few) = lifting (side_of c.args.half.side) c.args.half.sizes.few c.other.ensures in
    omega (arith, step_short inv c.in-Some.ensures.steps z c.requires.1, few_more _ c.coefficients.ensures few)

pub overflow_add-lifted-in-loop-step : goal.overflow_add-lifted-in-loop-step
overflow_add-lifted-in-loop-step c =
    let (_, _, inv) = c.loop-step.invariant in
    let (z, _, few) = lifting (side_of c.args.half.side) c.args.half.sizes.few c.other.ensures in
    omega (arith, inv.some, step_short inv c.in-Some.ensures.steps z c.requires.1, few_more _ c.coefficients.ensures few)

pub loop-step-preserved : goal.loop-step-preserved
loop-step-preserved c =
    let (_, _, inv) = c.loop-step.invariant in
    let (z, _, few) = lifting (side_of c.args.half.side) c.args.half.sizes.few c.other.ensures in
    let next = c.in-Some.ensures.steps in
    let short = step_short inv next z c.requires.1 in
    (tt, tt, measure_more inv next short c.coefficients.ensures (omega (arith, few)) refl)

pub returns : goal.returns
returns c =
    let (_, _, inv) = c.loop-step.invariant in
    let (z, _, _) = lifting (side_of c.args.half.side) c.args.half.sizes.few c.other.ensures in
    record { is = λ ss h. measure_done inv c.in-None.ensures.steps z ss h; small = omega (arith, inv.some) }
