-- `inside` meets its contract: no child, one, or several.
use mathlib.Core.Path.{◌≡◌, sym, ap, ◌∙◌}
use mathlib.Core.List.{List}
use Prim.Native.Nat.{ℕ}
use Rattle.model.specs.Lists.{has}
use native.Mathlib.Omega.{arith}
use lib.ListN.{length}
use Rattle.judge_node.proofs.ChildLaws.{few_words, words-within}
use Rattle.judge_node.proofs.InsideLaws.{leaf_inside, first_small, lone-inside, several_words}
use Rattle.judge_node.proofs.InsideLaws.{stateless_inside, gathered_words, several_inside}
use Rattle.judge_node.proofs.node.Node.inside.Goals as goal

-- a word is among the same words
has_like : {l m : List ℕ} → l ≡ m → has l 0 ≡ has m 0
has_like e = ap (λ (l : List ℕ). has l 0) e

pub returns-in_default : goal.returns-in_default
returns-in_default c = leaf_inside c.args.self.now (sym c.children-children.ensures ∙ c.in_default.ensures.steps.0.0)

pub lone-requires : goal.lone-requires
lone-requires c = first_small c.args.self.now (sym c.children-children.ensures ∙ c.in-Some.ensures.steps.0)

pub returns-then-is_empty : goal.returns-then-is_empty
returns-then-is_empty c =
    let first = sym c.children-children.ensures ∙ c.in-Some.ensures.steps.0 in
    lone-inside c.args.self.now first (c.is_empty.ensures.none c.if-is_empty.true) c.lone.ensures

pub gather-requires : goal.gather-requires
gather-requires c =
    let n = c.args.self.now in
    omega (arith, ap length c.children.ensures, words-within n.nodes.tree.now n.nodes.states.now n.number, c.requires)

pub invariant_of-content : goal.invariant_of-content
invariant_of-content c =
    let all = c.children.ensures in
    let (same, full) = c.in-Some-gather.ensures in
    let words = gathered_words c.args.self.now (same ∙ all) (has_like (sym all) ∙ full) (rw all at (few_words c.children.result)) in
    record { states = words }

pub content-requires : goal.content-requires
content-requires c =
    let first = sym c.children-children.ensures ∙ c.in-Some.ensures.steps.0 in
    several_words c.args.self.now first (c.is_empty.ensures.some c.if-is_empty.false) (c.in-Some-gather.ensures.0 ∙ c.children.ensures)

pub returns-in-Some-gather : goal.returns-in-Some-gather
returns-in-Some-gather c =
    let all = c.children.ensures in
    let (same, full) = c.in-Some-gather.ensures in
    several_inside c.args.self.now (same ∙ all) (has_like (sym all) ∙ full) c.content.ensures

pub returns-in-None : goal.returns-in-None
returns-in-None c = stateless_inside c.args.self.now (has_like (sym c.children.ensures) ∙ c.in-None.ensures)
