-- `step` meets its contract: by its kind a step says what its words say, and it has one of the five kinds.
use mathlib.Core.Bool.{◌&&◌, ◌||◌}
use native.Mathlib.Omega.{arith}
use Rattle.judge_count.proofs.SumLaws.{slice-rest}
use Rattle.judge_count.proofs.StepLaws.{kind-there, said, sum_room, sum-found, not_found, pair_found}
use Rattle.judge_count.proofs.Counts.step.Goals as goal

pub sum-requires : goal.sum-requires
sum-requires c = rw (slice-rest 1 c.args.words.now) (said c.requires 1 c.in-1.is).sum

pub at_most-requires : goal.at_most-requires
at_most-requires c = sum_room c.args.words.now c.sum.ensures (said c.requires 1 c.in-1.is)

pub sum-requires-in-2 : goal.sum-requires-in-2
sum-requires-in-2 c = rw (slice-rest 1 c.args.words.now) (said c.requires 2 c.in-2.is).sum

pub remainder-requires : goal.remainder-requires
remainder-requires c = sum_room c.args.words.now c.sum-in-2.ensures (said c.requires 2 c.in-2.is)

pub returns-in-1 : goal.returns-in-1
returns-in-1 c = sum-found c.args.words.now c.sum.ensures (λ h. said h 1 c.in-1.is) c.at_most.ensures

pub returns-in-2 : goal.returns-in-2
returns-in-2 c = sum-found c.args.words.now c.sum-in-2.ensures (λ h. said h 2 c.in-2.is) c.remainder.ensures

pub returns-in-3 : goal.returns-in-3
returns-in-3 c = not_found c.has.ensures (λ h. said h 3 c.in-3.is)

pub returns-in-4 : goal.returns-in-4
returns-in-4 c = pair_found ◌&&◌ c.has-in-4.ensures c.has-in-4-2.ensures (λ h. said h 4 c.in-4.is)

pub returns-in-5 : goal.returns-in-5
returns-in-5 c = pair_found ◌||◌ c.has-in-5.ensures c.has-in-5-2.ensures (λ h. said h 5 c.in-5.is)

pub returns-in_default : goal.returns-in_default
returns-in_default c = absurd (omega (arith, kind-there c.requires))
