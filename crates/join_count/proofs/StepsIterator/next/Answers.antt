-- `next` meets its contract: the kind of a step tells where it ends.
use mathlib.Core.Path.{refl, ap}
use Prim.Native.Nat.{◌+◌}
use native.Mathlib.Omega.{arith}
use Rattle.join_count.proofs.StepLaws.{some-end, some-later, first_step}
use borrow.Author.Rules.{rules}
use Rattle.join_count.proofs.StepsIterator.next.Goals as goal

pub overflow_add-end : goal.overflow_add-end
overflow_add-end c = search (some-end c.args.self.now.there (omega arith), rules)

pub invariant_of-self : goal.invariant_of-self
invariant_of-self c =
    let p = c.args.self.now in
    record { there = some-later p.there (omega arith) (ap (λ n. p.at + n) c.step_length.ensures) refl }

pub offset_bounds-words-at : goal.offset_bounds-words-at
offset_bounds-words-at c = search (some-end c.args.self.now.there (omega arith), rules)

pub slice_bounds-result-end : goal.slice_bounds-result-end
slice_bounds-result-end c = search (some-end c.args.self.now.there (omega arith), rules)

pub returns-clause-steps : goal.returns-clause-steps
returns-clause-steps c = record {
  first = λ p ss h. first_step h (omega arith) refl (ap (λ n. c.args.self.now.at + n) c.step_length.ensures) refl;
  fewer = omega arith;
}
