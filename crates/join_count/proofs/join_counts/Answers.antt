-- `join_counts` meets its contract.
use mathlib.Core.Path.{◌≡◌, sym, ◌∙◌}
use mathlib.Core.List.{List}
use Prim.Native.Nat.{ℕ, ◌≤◌}
use native.Mathlib.Omega.{arith}
use lib.ListN.{get_or}
use Rattle.model.specs.Sheet.{Step}
use Rattle.model.specs.Spans.{CountAt}
use Rattle.page.proofs.PageLaws.{then, as_words}
use Rattle.join_count.proofs.CountWords.{count-number, joint-count-words}
use borrow.Author.Rules.{rules}
use Rattle.join_count.proofs.join_counts.Goals as goal

-- a count part has one to 32 steps
small : {p a : ℕ} {s : List ℕ} {ss : List Step} {m : ℕ} → CountAt p s a ss → m ≡ get_or s a 0 → (1 ≤ m) × (m ≤ 32)
small h e = (omega (arith, count-number h, h.ranges.some_steps), omega (arith, count-number h, h.ranges.few_steps))

pub overflow_add-m : goal.overflow_add-m
overflow_add-m c = search (small c.requires.0.1 c.step_count-m.ensures, small c.requires.1.1 c.step_count-n.ensures, rules)

pub overflow_add-m-2 : goal.overflow_add-m-2
overflow_add-m-2 c = search (small c.requires.0.1 c.step_count-m.ensures, small c.requires.1.1 c.step_count-n.ensures, rules)

pub invariant_of-of_t : goal.invariant_of-of_t
invariant_of-of_t c = search (small c.requires.0.1 c.step_count-m.ensures, rules)

pub overflow_sub-m : goal.overflow_sub-m
overflow_sub-m c = search (small c.requires.0.1 c.step_count-m.ensures, rules)

pub overflow_sub-n : goal.overflow_sub-n
overflow_sub-n c = search (small c.requires.1.1 c.step_count-n.ensures, rules)

pub overflow_add-m-3 : goal.overflow_add-m-3
overflow_add-m-3 c = search (small c.requires.0.1 c.step_count-m.ensures, small c.requires.1.1 c.step_count-n.ensures, rules)

pub returns : goal.returns
returns c = λ ss ts h k.
    let of_s = rw c.half.ensures at c.put_steps.ensures in
    let of_t = rw c.half-2.ensures at c.put_steps-2.ensures in
    as_words (joint-count-words _ ss ts (count-number h ∙ sym c.step_count-m.ensures) (count-number k ∙ sym c.step_count-n.ensures))
    (then c.put.ensures (then (of_s ss h) (then (of_t ts k) c.copy.ensures)))
