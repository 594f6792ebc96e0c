-- `sheet_order::order_part` meets its contract.
use borrow.Author.Rules.{rules}
use Prim.Native.Nat.{ℕ}
use Rattle.model.specs.Lists.{numbers}
use Rattle.model.specs.Sheet.{arc_of, arc_ok, arc, order}
use Rattle.model.proofs.ListLaws.{length_from}
use Rattle.sheet_walk.proofs.WalkLaws.{stops, passes, word_passes, last, all_words}
use Rattle.sheet_order.proofs.order_part.Goals as goal

pub returns-in_err-m : goal.returns-in_err-m
unfolding order
returns-in_err-m c = stops c.between.ensures _ c.in_err-m.was c.from_residual.ensures

pub returns-in_err-set_below : goal.returns-in_err-set_below
unfolding order
returns-in_err-set_below c =
    word_passes c.between.ensures _ c.in_ok-m.was
    (stops c.set_below.ensures _ c.in_err-set_below.was c.from_residual-in_err-set_below.ensures)

pub returns-in_err-n : goal.returns-in_err-n
unfolding order
returns-in_err-n c =
    word_passes c.between.ensures _ c.in_ok-m.was
    (passes c.set_below.ensures _ c.in_ok-set_below.was (λ l _ _.
    stops c.between-2.ensures _ c.in_err-n.was c.from_residual-in_err-n.ensures))

pub returns : goal.returns
unfolding order arc
returns c =
    let ok = arc_ok c.args.p c.in_ok-m.m in
    let arcs = all_words ok (λ (i : ℕ). arc_of) (numbers _) (length_from _ 0) (c.all_good.ensures ok (λ w b small k. search rules)) in
    word_passes c.between.ensures _ c.in_ok-m.was
    (passes c.set_below.ensures _ c.in_ok-set_below.was (λ l _ _.
    word_passes c.between-2.ensures _ c.in_ok-n.was (last _ arcs)))
