-- `judge_states::verdict` meets its contract, by the root's state word.
use borrow.Author.Rules.{rules}
use Rattle.model.specs.Answers.{said_verdict}
use Rattle.model.specs.Index.{sheet_in}
use Rattle.judge_states.proofs.StateLaws.{last_zero_found, final-stands, root_stuck, root_accepted, root-refused}
use Rattle.judge_states.proofs.verdict.Goals as goal

pub returns-then-root-eq-NO_STATE : goal.returns-then-root-eq-NO_STATE
unfolding said_verdict
returns-then-root-eq-NO_STATE c =
    let node = c.unwrap-node.result in
    let last = last_zero_found c.args.states.now node (search rules) (search rules) (search rules) in
    root_stuck (sheet_in c.args.sheet.now).final c.args.states.now c.args.looks c.requires.nodes c.if-root-eq-NO_STATE.true last

pub returns-then-has : goal.returns-then-has
unfolding said_verdict
returns-then-has c = search (root_accepted, final-stands, rules)

pub returns : goal.returns
unfolding said_verdict
returns c = search (root-refused, final-stands, rules)
