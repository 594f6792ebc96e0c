-- `fit` meets its contract: the last step decides.
use native.Mathlib.Omega.{arith}
use borrow.Author.Rules.{rules}
use Rattle.judge_count.proofs.StepLaws.{steps-there, few_steps, no_step, step-here, one_step, all-steps}
use Rattle.judge_count.proofs.Counts.fit.Goals as goal

pub bounds-part-0 : goal.bounds-part-0
bounds-part-0 c = search (steps-there, rules)

pub slice_bounds-rest-count : goal.slice_bounds-rest-count
slice_bounds-rest-count c = omega (arith, steps-there c.requires)

pub slice_bounds-rest-start : goal.slice_bounds-rest-start
slice_bounds-rest-start c = search (steps-there, rules)

pub loop-i-init : goal.loop-i-init
loop-i-init c = search (no_step, rules)

pub step-step-requires : goal.step-step-requires
step-step-requires c = search (step-here, rules)

pub loop-i-preserved : goal.loop-i-preserved
loop-i-preserved c = search (one_step c.loop-i.invariant, rules)

pub overflow_sub-steps : goal.overflow_sub-steps
overflow_sub-steps c = omega (arith, few_steps c.loop-i.invariant)

pub returns : goal.returns
returns c = search (all-steps, rules)
