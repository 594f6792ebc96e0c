-- `offsets::index` meets its contract: what is left to write, from line k on, completes the index.
use mathlib.Core.Path.{◌≡◌, refl, ◌∙◌}
use native.Mathlib.Nat.{sub-zero}
use native.Mathlib.Omega.{arith}
use borrow.Author.Rules.{rules}
use Rattle.offsets.proofs.LineLaws.{rest_cut, begins-first, begins-some, begins_none, begins-next}
use Rattle.offsets.proofs.IndexLaws.{write-next, write-last}
use Rattle.offsets.proofs.index.Goals as goal

pub loop-k-init : goal.loop-k-init
loop-k-init c = (begins-first _, rw sub-zero, refl)

pub returns-then-list-at-clause-lines : goal.returns-then-list-at-clause-lines
returns-then-list-at-clause-lines c = let top = c.loop-k.invariant in (write-last _ _ _ _ _ _ top.0 top.1 c.put.ensures
    (omega (arith, begins_none _ _ _ top.0 c.if-list-at.true))).0

pub returns-then-list-at-clause-starts : goal.returns-then-list-at-clause-starts
returns-then-list-at-clause-starts c = let top = c.loop-k.invariant in (write-last _ _ _ _ _ _ top.0 top.1 c.put.ensures
    (omega (arith, begins_none _ _ _ top.0 c.if-list-at.true))).1

pub overflow_add-at : goal.overflow_add-at
overflow_add-at c = omega (arith, (rest_cut _ _ c.if-list-at.false c.line_length-at.ensures).within)

pub loop-k-preserved : goal.loop-k-preserved
loop-k-preserved c = let top = c.loop-k.invariant in
    let more = c.if-list-at.false in (
      begins-next _ _ _ top.0 _ (rest_cut _ _ more c.line_length-at.ensures),
      write-next _ _ _ _ _ _ top.0 top.1 c.put.ensures
          (omega (arith, begins-some _ _ _ top.0 more)),
      search rules,
    )

pub returns-clause-lines : goal.returns-clause-lines
returns-clause-lines c =
    let top = c.loop-k.invariant in
    let all : 64 ≡ c.loop-k.k = omega arith in
    all ∙ (write-last _ _ _ _ _ _ top.0 top.1 (rw all at c.put-2.ensures) (omega arith)).0

pub returns-clause-starts : goal.returns-clause-starts
returns-clause-starts c =
    let top = c.loop-k.invariant in
    let all : 64 ≡ c.loop-k.k = omega arith in
    (write-last _ _ _ _ _ _ top.0 top.1 (rw all at c.put-2.ensures) (omega arith)).1
