-- `join_indexed` meets its contract: the limit of states comes before the others.
use native.Mathlib.Omega.{arith}
use Rattle.model.specs.Answers.{said, said_refusal}
use Rattle.compose.proofs.LimitChecks.{product_fits, states-over, few_joinable, sized}
use Rattle.compose.proofs.join_indexed.Goals as goal

pub overflow_mul-p : goal.overflow_mul-p
overflow_mul-p c = omega (arith, product_fits c.args.s c.args.t c.states-p.ensures c.states-q.ensures)

pub returns-then-p-q-gt-MOST_STATES : goal.returns-then-p-q-gt-MOST_STATES
unfolding said said_refusal
returns-then-p-q-gt-MOST_STATES c =
    rw c.from.ensures
    (states-over c.args.s c.args.t c.states-p.ensures c.states-q.ensures c.if-p-q-gt-MOST_STATES.true c.args.out.now)

pub invariant_of-sizes : goal.invariant_of-sizes
invariant_of-sizes c =
    record { few = few_joinable c.args.s c.args.t c.states-p.ensures c.states-q.ensures c.if-p-q-gt-MOST_STATES.false }

pub invariant_of-join_few : goal.invariant_of-join_few
invariant_of-join_few c = record { sized = sized c.args.s c.args.t c.states-p.ensures c.states-q.ensures }
