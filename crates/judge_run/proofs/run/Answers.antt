-- `judge_run::run` meets its contract: so far the nodes from i on have their state words.
use mathlib.Core.Path.{◌≡◌, refl, ap, ◌∙◌}
use borrow.Author.Rules.{rules}
use lib.ListN.{length, replicate}
use Rattle.judge_contents.proofs.ContentLaws.{nothing-found}
use Rattle.judge_run.proofs.RunLaws.{running_none, running_judging, running_two, running_more}
use Rattle.judge_run.proofs.run.Goals as goal

pub loop-i-init : goal.loop-i-init
loop-i-init c = running_none _ _ c.requires

pub invariant_of-node-in-loop-i : goal.invariant_of-node-in-loop-i
invariant_of-node-in-loop-i c =
    let nothing = nothing-found _ (rw c.new.ensures at c.content-nothing.ensures) in
    record { judging = rw c.new.ensures (running_judging c.loop-i.invariant c.loop-i-test.true nothing) }

pub returns-in_default : goal.returns-in_default
returns-in_default c =
    let inv = c.loop-i.invariant in
    let found = rw c.new.ensures at c.judge-found.ensures in
    let zeros : c.fill.new.self ≡ replicate (length c.loop-i.states) 0 = search rules in
    (_, refl, running_two inv c.loop-i-test.true c.state_word.ensures found c.in_default.is, zeros ∙ ap (λ n. replicate n 0) inv.long)

pub loop-i-preserved : goal.loop-i-preserved
loop-i-preserved c =
    let found = rw c.new.ensures at c.judge-found.ensures in
    running_more c.loop-i.invariant c.loop-i-test.true c.state_word.ensures found c.in-Some.is
