-- `lone` meets its contract: the child has no state, or one.
use native.Mathlib.Omega.{arith}
use Rattle.judge_node.proofs.InsideLaws.{nothing-found, lone-state}
use Rattle.judge_node.proofs.node.lone.Goals as goal

pub returns-then-word-eq0 : goal.returns-then-word-eq0
returns-then-word-eq0 c = rw c.if-word-eq0.true nothing-found

pub overflow_sub-word : goal.overflow_sub-word
overflow_sub-word c = omega (arith, c.if-word-eq0.false)

pub returns : goal.returns
returns c = lone-state _ c.if-word-eq0.false c.requires c.with_if.ensures
