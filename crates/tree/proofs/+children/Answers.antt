-- `tree::children` meets its contract: each way round the loop, and out of it, is a law of the children of a node.
use mathlib.Core.Path.{sym, ◌∙◌}
use native.Mathlib.Omega.{arith}
use Rattle.std.proofs.lemmas.Result.{err_from_is_err_and}
use Rattle.tree_look.proofs.LookLaws.{seen_end, seen_text, seen_element, seen_breaks}
use Rattle.tree.proofs.ChildLaws.{shape-end, shape_text, shape_whole, shape-inside, shape_breaks, text_within, element_within}
use Rattle.tree.proofs.+children.Goals as goal

pub returns-in_err-seen : goal.returns-in_err-seen
returns-in_err-seen t c =
    let p = err_from_is_err_and c.from_residual.result c.from_residual.ensures.1 in
    let b = seen_breaks _ _ c.in_err-seen.ensures in
    rw (p.1, p.2, b.1) (sym (c.loop-seen.invariant ∙ shape_breaks _ _ _ _ _ _ c.requires b.0))

pub overflow_add-i : goal.overflow_add-i
overflow_add-i t c = omega (arith, text_within _ _ _ _ _ _ (seen_text _ _ c.in_ok-seen.ensures c.in-Some.is c.in-Text.is))

pub loop-seen-smaller-in-Text : goal.loop-seen-smaller-in-Text
loop-seen-smaller-in-Text t c = omega (arith, text_within _ _ _ _ _ _ (seen_text _ _ c.in_ok-seen.ensures c.in-Some.is c.in-Text.is))

pub loop-seen-preserved-in-Text : goal.loop-seen-preserved-in-Text
loop-seen-preserved-in-Text t c =
    c.loop-seen.invariant ∙ shape_text _ _ _ _ _ _ c.requires (seen_text _ _ c.in_ok-seen.ensures c.in-Some.is c.in-Text.is)

pub overflow_sub-levels : goal.overflow_sub-levels
overflow_sub-levels t c = omega (arith, element_within _ _ _ _ _ _ (seen_element _ _ c.in_ok-seen.ensures c.in-Some.is c.in-Element.is))

pub overflow_add-i-in-Element : goal.overflow_add-i-in-Element
overflow_add-i-in-Element t c =
    omega (arith, element_within _ _ _ _ _ _ (seen_element _ _ c.in_ok-seen.ensures c.in-Some.is c.in-Element.is))

pub children-requires : goal.children-requires
children-requires t c =
    let e = element_within _ _ _ _ _ _ (seen_element _ _ c.in_ok-seen.ensures c.in-Some.is c.in-Element.is) in
    (omega (arith, e), omega (arith, e))

pub returns-in_err-children-in-Element : goal.returns-in_err-children-in-Element
returns-in_err-children-in-Element t c =
    let p = err_from_is_err_and c.from_residual-in_err-children-in-Element.result c.from_residual-in_err-children-in-Element.ensures.1 in
    let e = seen_element _ _ c.in_ok-seen.ensures c.in-Some.is c.in-Element.is in
    rw (p.1, p.2) (sym (c.loop-seen.invariant
    ∙ shape-inside _ _ _ _ _ _ c.requires e (sym c.in_err-children-in-Element.ensures)))

pub loop-seen-smaller : goal.loop-seen-smaller
loop-seen-smaller t c = omega (arith, element_within _ _ _ _ _ _ (seen_element _ _ c.in_ok-seen.ensures c.in-Some.is c.in-Element.is))

pub loop-seen-preserved : goal.loop-seen-preserved
loop-seen-preserved t c =
    let e = seen_element _ _ c.in_ok-seen.ensures c.in-Some.is c.in-Element.is in
    c.loop-seen.invariant ∙ shape_whole _ _ _ _ _ _ c.requires e (sym c.in_ok-children-in-Element.ensures)

pub returns : goal.returns
returns t c = sym (c.loop-seen.invariant ∙ shape-end _ _ _ _ _ _ c.requires (seen_end _ _ c.in_ok-seen.ensures c.in_default.is))
