-- `next` meets its contract: the next child is after what is inside this one.
use mathlib.Core.Path.{refl, ap}
use native.Mathlib.Omega.{arith}
use lib.ListN.{length}
use Rattle.judge_node.proofs.ChildLaws.{words_left, words_next}
use Rattle.judge_node.proofs.children.ChildWordsIterator.next.Goals as goal

pub size-requires : goal.size-requires
size-requires c =
    let children = c.args.self.now in
    omega (arith, words_left children (c.is_empty.ensures.some c.if-is_empty.false), children.within)

pub returns-clause-steps : goal.returns-clause-steps
returns-clause-steps c =
    let children = c.args.self.now in (
      words_next children (words_left children (c.is_empty.ensures.some c.if-is_empty.false)) c.size.ensures,
      record { nodes = refl; next = omega (arith, c.size.ensures.some); end = refl },
    )

pub returns-clause-goes : goal.returns-clause-goes
returns-clause-goes c =
    let children = c.args.self.now in
    let more = words_next children (words_left children (c.is_empty.ensures.some c.if-is_empty.false)) c.size.ensures in
    record { on = λ _. (tt, tt, omega (arith, ap length more)); keeps = tt; rests = λ _. tt }
