-- `judge_order::read_all` meets its contract.
use borrow.Author.Rules.{rules}
use mathlib.Core.Path.{refl, ap}
use Prim.Native.Nat.{ℕ, ◌+◌}
use Rattle.judge_order.proofs.OrderLaws.{no_child, one_child, last_child, all-children}
use Rattle.judge_order.proofs.read_all.Goals as goal

pub loop-word-init : goal.loop-word-init
loop-word-init c = (no_child, refl)

pub returns-then-set-eq0 : goal.returns-then-set-eq0
returns-then-set-eq0 c = rw c.loop-word.invariant.1 (search (last_child c.loop-word.invariant.0, rules))

pub loop-word-preserved : goal.loop-word-preserved
loop-word-preserved c = (search (one_child c.loop-word.invariant.0, rules), ap (λ (n : ℕ). n + 1) c.loop-word.invariant.1)

pub returns : goal.returns
returns c = rw c.loop-word.invariant.1 (all-children c.loop-word.invariant.0 c.loop-word-test.false)
