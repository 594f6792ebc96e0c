-- `numbers::count_rules` meets its contract: the numbers so far, with those of the rules that are left, make all.
use mathlib.Core.Path.{◌∙◌, ap}
use native.Mathlib.Omega.{arith}
use Rattle.indexed.specs.Walks.{all_left}
use Rattle.judge_rules.proofs.TargetLaws.{one_if, numbering_none, numbering_few, numbering_more, numbering_all}
use Rattle.judge_rules.proofs.numbers.count_rules.Goals as goal

pub loop-rule-init : goal.loop-rule-init
loop-rule-init c =
    let all = ap all_left c.into_iter-rule-iterator.ensures.into_iter_gives ∙ c.spots-rule-items.ensures.all in
    (tt, tt, rw all (numbering_none c.args.sheet.now.indexed))

pub overflow_add-ones : goal.overflow_add-ones
overflow_add-ones c = let (_, _, g) = c.loop-rule.invariant in omega (arith, numbering_few g, one_if _ c.from-ones.ensures)

pub overflow_add-twos : goal.overflow_add-twos
overflow_add-twos c = let (_, _, g) = c.loop-rule.invariant in omega (arith, numbering_few g, one_if _ c.from-twos.ensures)

pub overflow_add-counted : goal.overflow_add-counted
overflow_add-counted c = let (_, _, g) = c.loop-rule.invariant in omega (arith, numbering_few g, one_if _ c.from-counted.ensures)

pub loop-rule-preserved : goal.loop-rule-preserved
loop-rule-preserved c =
    let (_, _, g) = c.loop-rule.invariant in
    let rule = c.in-Some.rule in
    let more =
    numbering_more g rule c.in-Some.ensures.steps.rule c.map-map.ensures c.from-ones.ensures c.from-twos.ensures c.has_count.ensures
    c.from-counted.ensures in
    (tt, tt, more)

pub returns : goal.returns
returns c = let (_, _, g) = c.loop-rule.invariant in numbering_all g c.in-None.ensures.steps
