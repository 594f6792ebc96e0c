-- `all_good` meets its contract.
use native.Mathlib.Omega.{arith}
use borrow.Author.Rules.{rules}
use Rattle.sheet_walk.proofs.WalkLaws.{refused_at_start, leads_first, leads_more, leads_bad, leads_done}
use Rattle.sheet_walk.proofs.Walk.all_good.Goals as goal

pub loop-init : goal.loop-init
loop-init g c = λ ok t. leads_first

pub returns-in_err-word : goal.returns-in_err-word
returns-in_err-word g c = λ ok t.
    let word = c.word.ensures ok (λ w b m p. search (p, t, rules)) in
    refused_at_start _ c.from_residual.ensures
    (leads_bad (c.loop.invariant ok t) (omega arith) word c.in_err-word.was c.from_residual.ensures)

pub loop-preserved : goal.loop-preserved
loop-preserved g c = λ ok t.
    let word = c.word.ensures ok (λ w b m p. search (p, t, rules)) in
    leads_more (c.loop.invariant ok t) (omega arith) word c.in_ok-word.was

pub returns : goal.returns
returns g c = λ ok t. leads_done (c.loop.invariant ok t) (omega arith)
