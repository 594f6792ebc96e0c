-- `put_step` meets its contract. A step without a sum refers to others.
use mathlib.Core.Path.{◌≡◌, ap}
use lib.ListN.{get_or}
use mathlib.Core.List.{map}
use native.Mathlib.Omega.{arith}
use Rattle.page.proofs.PageLaws.{then, as_words, more, done, rest_next, rest_none}
use Rattle.join_count.proofs.StepWords.{step_begins, refers_here, numbers_found}
use Rattle.join_count.proofs.Lift.put_step.Goals as goal

pub bounds-step-0 : goal.bounds-step-0
bounds-step-0 c = step_begins c.requires

pub overflow_add-self : goal.overflow_add-self
overflow_add-self c =
    let (x, h) = c.requires in
    let v = refers_here c.if-kind-le-REMAINDER.false x h in
    let test = rw (numbers_found _ v.is) at c.loop-number-test.true in
    rw (numbers_found _ v.is) (record { fits = omega (arith, v.small _ test, c.args.self.small) })

pub loop-number-preserved : goal.loop-number-preserved
loop-number-preserved c = more c.loop-number.invariant (ap (map _) (rest_next _ _ c.loop-number-test.true)) c.put-in-loop-number.ensures

pub returns : goal.returns
returns c = λ x h.
    let v = refers_here c.if-kind-le-REMAINDER.false x h in
    let head : get_or c.args.step.now 0 0 ≡ v.kind = ap (λ ws. get_or ws 0 0) v.is in
    as_words (rw (numbers_found _ v.is, head) (v.lifted _ _ c.args.self.shift))
    (then c.put.ensures (done c.loop-number.invariant (ap (map _) (rest_none _ _ c.loop-number-test.false))))
