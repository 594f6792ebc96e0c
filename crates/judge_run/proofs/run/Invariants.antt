-- `judge_run::run` meets its contract: so far the nodes from i on have their state words.
use lib.ListN.{length}
use Rattle.model.specs.Index.{rules_in}
use Rattle.judge_run.proofs.RunLaws.{Running}
use Rattle.judge_run.proofs.run.Given as goal

abbrev pub invariant-loop-i : goal.invariant-loop-i
invariant-loop-i l = Running (rules_in l.sheet.words.now) l.tree (length l.initial.states) l.i l.states l.looks
