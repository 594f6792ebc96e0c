-- `put_sum_step` meets its contract.
use mathlib.Core.Path.{refl}
use Rattle.page.proofs.PageLaws.{then, as_words}
use Rattle.join_count.proofs.StepWords.{step_begins, sum_here, tail-long, sum_found, tail_found}
use borrow.Author.Rules.{rules}
use Rattle.join_count.proofs.Lift.put_sum_step.Goals as goal

pub bounds-step-0 : goal.bounds-step-0
bounds-step-0 c = step_begins c.requires.0

pub overflow_sub-end : goal.overflow_sub-end
overflow_sub-end c =
    let ((x, h), k) = c.requires in
    let v = sum_here k x h in
    search (tail-long _ _ _ v.is, rules)

pub slice_bounds-sum-count : goal.slice_bounds-sum-count
slice_bounds-sum-count c =
    let ((x, h), k) = c.requires in
    let v = sum_here k x h in
    search (tail-long _ _ _ v.is, rules)

pub slice_bounds-sum-start : goal.slice_bounds-sum-start
slice_bounds-sum-start c =
    let ((x, h), k) = c.requires in
    let v = sum_here k x h in
    search (tail-long _ _ _ v.is, rules)

pub returns : goal.returns
returns c = λ x h.
    let v = sum_here c.requires.1 x h in
    let found = sum_found _ _ _ v.is v.ranges c.set_at.ensures refl in
    as_words (rw (tail-long _ _ _ v.is).0 (v.lifted _ _ c.args.self.shift))
    (then c.put.ensures (then (c.lift_sum.ensures _ found) (as_words (tail_found _ _ _ v.is) c.copy.ensures)))
