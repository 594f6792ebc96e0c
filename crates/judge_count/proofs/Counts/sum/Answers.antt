-- `sum` meets its contract: the terms of the marked states, lowest first, one after the other.
use mathlib.Core.Path.{◌∙◌}
use native.Mathlib.Omega.{arith}
use borrow.Author.Rules.{rules}
use mir.Syntax.{w32}
use mir.Facts.{to_z-of_z}
use Rattle.bits.proofs.SignedLaws.{signed-word}
use Rattle.judge_count.proofs.SumLaws.{marks-there, no_term, term_there, term_counted, term_room, one_term, all_terms}
use Rattle.judge_count.proofs.Counts.sum.Goals as goal

pub bounds-words-0 : goal.bounds-words-0
bounds-words-0 c = omega (arith, marks-there c.requires)

pub bounds-words-1 : goal.bounds-words-1
bounds-words-1 c = omega (arith, marks-there c.requires)

pub slice_bounds-rest-count : goal.slice_bounds-rest-count
slice_bounds-rest-count c = marks-there c.requires

pub slice_bounds-rest-start : goal.slice_bounds-rest-start
slice_bounds-rest-start c = search (marks-there, rules)

pub loop-q-init : goal.loop-q-init
loop-q-init c = search (no_term, rules)

pub bounds-rest-0 : goal.bounds-rest-0
bounds-rest-0 c = search (term_there c.loop-q.invariant.2 c.in-Some.ensures.steps, rules)

pub bounds-self-q : goal.bounds-self-q
bounds-self-q c = term_counted c.loop-q.invariant.2 _ c.in-Some.ensures.steps

pub plus_times-total-requires : goal.plus_times-total-requires
plus_times-total-requires c =
    let times = to_z-of_z {w = w32} (record { sfits = c.cast_signed-times.type_inv }) ∙ c.cast_signed-times.ensures ∙ signed-word _ in
    term_room c.loop-q.invariant.2 c.in-Some.ensures.steps times

pub slice_bounds-rest-count-in-loop-q : goal.slice_bounds-rest-count-in-loop-q
slice_bounds-rest-count-in-loop-q c = omega (arith, term_there c.loop-q.invariant.2 c.in-Some.ensures.steps)

pub slice_bounds-rest-start-in-loop-q : goal.slice_bounds-rest-start-in-loop-q
slice_bounds-rest-start-in-loop-q c = search (term_there c.loop-q.invariant.2 c.in-Some.ensures.steps, rules)

pub loop-q-preserved : goal.loop-q-preserved
loop-q-preserved c =
    let times = to_z-of_z {w = w32} (record { sfits = c.cast_signed-times.type_inv }) ∙ c.cast_signed-times.ensures ∙ signed-word _ in
    let more = to_z-of_z {w = w32} (record { sfits = c.plus_times-total.type_inv }) ∙ c.plus_times-total.ensures in
    (tt, tt, one_term c.loop-q.invariant.2 c.in-Some.ensures.steps times more)

pub returns : goal.returns
returns c = all_terms c.loop-q.invariant.2 c.in-None.ensures.steps.0
