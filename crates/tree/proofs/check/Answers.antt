-- `tree::check` meets its contract: each answer is what the model says, by the tests on the way.
use mathlib.Core.Path.{◌≡◌, sym, ap, ◌∙◌}
use mathlib.Core.Bool.{Bool, false, ◌&&◌, and_assoc}
use mathlib.Core.List.{List}
use Prim.Native.Nat.{ℕ, suc, ◌/◌, ◌%◌, ◌≤◌}
use native.Mathlib.Omega.{arith}
use borrow.Author.Tests.{leb-true}
use lib.Dec.{eqb, leb}
use lib.ListN.{length}
use Rattle.std.specs.Prelude.{Ok, Err}
use Rattle.std.proofs.lemmas.Result.{err_from_is_err_and}
use Rattle.model.specs.Answers.{count, refusal, said, said_refusal, passes, refuses, ◌>>=◌, ◌>>◌, require, answer_of}
use Rattle.model.specs.Tree.{tag, size, sizeD, symbol_at, size_at, span_at, tag_symbol, children, tree_of}
use Rattle.model.specs.Calls.{tree_said}
use Rattle.model.specs.declared.Refusal.{Refusal}
use Rattle.model.proofs.Tests.{Yes, and_left, and_right}
use Rattle.model.proofs.CheckLaws.{bind_refused}
use Rattle.model.proofs.TreeLaws.{tree_refuses, children_fill}
use Rattle.tree.specs.Shape.{shape_at}
use Rattle.tree.proofs.ChildLaws.{kept_inv, refused_inv}
use Rattle.tree.proofs.check.Goals as goal

-- what is tested of the number of words, and of node 0
abbrev counted : List ℕ → Bool
counted t = eqb (length t % 4) 0 && leb 1 (length t / 4) && leb (length t / 4) 4096

abbrev rooted : ℕ → List ℕ → Bool
rooted g t = tag_symbol g (symbol_at t 0) && eqb (size_at t 0) (length t / 4)

some-node : (t : List ℕ) → Yes (counted t) → 1 ≤ length t / 4
some-node t y =
    leb-true 1 (length t / 4) (and_right (eqb (length t % 4) 0) (leb 1 (length t / 4))
    (and_left (eqb (length t % 4) 0 && leb 1 (length t / 4)) (leb (length t / 4) 4096) y))

module _ (g : ℕ) (t : List ℕ) where
  miscounted : counted t ≡ false → tree_said g t ≡ refusal 10 (length t / 4)
  unfolding tree_said tree_of answer_of require ◌>>◌
  miscounted h = rw (← and_assoc, h)

  unrooted : Yes (counted t) → rooted g t ≡ false → tree_said g t ≡ refusal 10 0
  unfolding tree_said tree_of answer_of require ◌>>◌
  unrooted h k = rw (← and_assoc, h, k)

  -- where node 0 stands, its children decide
  by-children : Yes (counted t) → Yes (rooted g t)
      → tree_of g t ≡ (children t g (length t) 31 1 (length t / 4) false >>= λ d. passes (tag (symbol_at t 0) (span_at t 0) d))
  unfolding tree_of require ◌>>◌
  by-children h k = rw (← and_assoc, h, k)

  whole-said : Yes (counted t) → Yes (rooted g t) → shape_at t g 31 1 (length t / 4) false ≡ Ok tt → tree_said g t ≡ count (length t / 4)
  unfolding tree_said answer_of size ◌>>=◌
  whole-said h k w =
      let (d, e) = kept_inv _ w in
      let a = some-node t h in
      let n : suc (sizeD d) ≡ length t / 4 = omega (arith, children_fill t g 31 1 (length t / 4) false d a (omega arith) e) in
      rw (by-children h k, e, n)

  refused-said : {r : Refusal} → Yes (counted t) → Yes (rooted g t) → shape_at t g 31 1 (length t / 4) false ≡ Err r
      → tree_said g t ≡ said_refusal r
  unfolding tree_said answer_of said_refusal
  refused-said h k b =
      let (m, i, e, is) = refused_inv _ b in
      let r : tree_of g t ≡ refuses m i = by-children h k ∙ bind_refused _ e in
      rw (r, tree_refuses g t r) (sym (ap said_refusal is))

pub returns-then-not-counted : goal.returns-then-not-counted
unfolding said said_refusal
returns-then-not-counted c = sym (miscounted _ _ c.if-not-counted.true)

pub is_root-requires : goal.is_root-requires
is_root-requires c = omega (arith, some-node c.args.tree.now c.if-not-counted.false)

pub returns-then-not-is_root : goal.returns-then-not-is_root
unfolding said said_refusal
returns-then-not-is_root c = sym (unrooted _ _ c.if-not-counted.false (sym c.if-not-is_root.ensures))

pub returns-in_err-children : goal.returns-in_err-children
unfolding said
returns-in_err-children c =
    let p = err_from_is_err_and c.from_residual.result c.from_residual.ensures.1 in
    rw (p.1, p.2) (sym (refused-said _ _ c.if-not-counted.false (sym c.if-not-is_root.ensures) (sym c.in_err-children.ensures)))

pub returns : goal.returns
unfolding said
returns c = sym (whole-said _ _ c.if-not-counted.false (sym c.if-not-is_root.ensures) (sym c.in_ok-children.ensures))
