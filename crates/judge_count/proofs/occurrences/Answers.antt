-- `judge_count::occurrences` meets its contract.
use native.Mathlib.Omega.{arith}
use borrow.Author.Rules.{rules}
use Rattle.judge_count.proofs.SumLaws.{no_count, count_small, one_count, all-counted}
use Rattle.judge_count.proofs.occurrences.Goals as goal

pub loop-word-init : goal.loop-word-init
loop-word-init c = rw c.requires (no_count _)

pub overflow_cast-q : goal.overflow_cast-q
overflow_cast-q c = omega (arith, c.args.children.states.each _ c.loop-word-test.true)

pub offset_bounds-counts-q : goal.offset_bounds-counts-q
offset_bounds-counts-q c = omega (arith, c.args.children.states.each _ c.loop-word-test.true)

pub bounds-counts-q : goal.bounds-counts-q
bounds-counts-q c = omega (arith, c.args.children.states.each _ c.loop-word-test.true)

pub overflow_add-counts : goal.overflow_add-counts
overflow_add-counts c = omega (arith, count_small c.loop-word.invariant c.loop-word-test.true c.args.children.states.few)

pub loop-word-preserved : goal.loop-word-preserved
loop-word-preserved c =
    one_count c.loop-word.invariant c.loop-word-test.true (omega (arith, c.args.children.states.each _ c.loop-word-test.true))

pub returns : goal.returns
returns c = search (all-counted, rules)
