-- `next` meets its contract: of the empty set none, else the lowest member and the set without it.
use mathlib.Core.Path.{ap}
use native.Mathlib.Omega.{arith}
use borrow.Author.Rules.{rules}
use lib.ListN.{length}
use Rattle.bits.proofs.MemberLaws.{members_none, members_first}
use Rattle.bits.proofs.MembersLeftIterator.next.Goals as goal

pub returns-then-set-eq0-clause-steps : goal.returns-then-set-eq0-clause-steps
returns-then-set-eq0-clause-steps c = search (members_none, rules)

pub returns-clause-steps : goal.returns-clause-steps
returns-clause-steps c = search (members_first, rules)

pub returns-clause-goes : goal.returns-clause-goes
returns-clause-goes c =
    let fewer = ap length (members_first _ (search rules) c.if-set-eq0.false) in
    record { on = λ _. (tt, tt, omega (arith, fewer)); keeps = tt; rests = λ _. tt }
