-- `try_rule` meets its contract: its parts are where its map says, and both must fit.
use mathlib.Core.Path.{refl}
use borrow.Author.Rules.{rules}
use Rattle.judge_contents.proofs.ContentLaws.{target_room, first_room, arcs_room, middle_room, order-lent, first-lent, second-lent}
use Rattle.judge_contents.proofs.ContentLaws.{unordered_tries, unfit_tries, ordered-tries}
use Rattle.judge_contents.proofs.Element.try_rule.Goals as goal

pub slice_bounds-then_some-count : goal.slice_bounds-then_some-count
slice_bounds-then_some-count c = first_room c.args.rule.now c.requires.content c.has_order.ensures c.if-not-has_order.true

pub slice_bounds-then_some-start : goal.slice_bounds-then_some-start
slice_bounds-then_some-start c = search (first_room, rules)

pub slice_bounds-then_some-end : goal.slice_bounds-then_some-end
slice_bounds-then_some-end c = search (target_room, rules)

pub count_holds-requires : goal.count_holds-requires
count_holds-requires c =
    first-lent c.args.rule.now c.requires.content c.has_order.ensures _ c.then_some.ensures c.if-not-has_order.true refl refl

pub returns-then-not-has_order : goal.returns-then-not-has_order
returns-then-not-has_order c =
    unordered_tries c.args.rule.now c.requires.content c.args.self.now c.requires.sheet c.has_order.ensures c.if-not-has_order.true
    refl _ refl c.then_some.ensures c.count_holds.ensures

pub bounds-words-part : goal.bounds-words-part
bounds-words-part c = search (arcs_room, rules)

pub slice_bounds-read_order-end : goal.slice_bounds-read_order-end
slice_bounds-read_order-end c = search (middle_room, rules)

pub read_order-order-requires : goal.read_order-order-requires
read_order-order-requires c = search (order-lent, rules)

pub returns-then-not-order : goal.returns-then-not-order
returns-then-not-order c =
    unfit_tries c.args.rule.now c.requires.content c.args.self.now c.requires.sheet c.has_order.ensures c.if-not-has_order.false refl
    c.read_order-order.ensures c.if-not-order.true

pub slice_bounds-then_some-count-2 : goal.slice_bounds-then_some-count-2
slice_bounds-then_some-count-2 c = search (middle_room, rules)

pub slice_bounds-then_some-start-2 : goal.slice_bounds-then_some-start-2
slice_bounds-then_some-start-2 c = search (middle_room, rules)

pub slice_bounds-then_some-end-2 : goal.slice_bounds-then_some-end-2
slice_bounds-then_some-end-2 c = search (target_room, rules)

pub count_holds-requires-2 : goal.count_holds-requires-2
count_holds-requires-2 c =
    second-lent c.args.rule.now c.requires.content c.has_order.ensures _ c.then_some-2.ensures
    c.if-not-has_order.false refl refl refl

pub returns : goal.returns
returns c =
    ordered-tries c.args.rule.now c.requires.content c.args.self.now c.requires.sheet c.has_order.ensures c.if-not-has_order.false refl
    c.read_order-order.ensures c.if-not-order.false refl _ refl
    c.then_some-2.ensures c.count_holds-2.ensures
