-- `next` meets its contract: the entry of a rule tells the next one with its key.
use mathlib.Core.Path.{refl}
use Prim.Native.Nat.{◌<◌}
use native.Mathlib.Omega.{arith}
use lib.ListN.{length}
use Rattle.model.specs.Index.{rules_in}
use Rattle.indexed.proofs.WalkLaws.{chain_on, chain_over}
use Rattle.indexed.proofs.ChainIterator.next.Goals as goal

pub returns-then-rules-k-clause-steps : goal.returns-then-rules-k-clause-steps
returns-then-rules-k-clause-steps c =
    chain_over c.args.self.now.key (rules_in c.args.self.now.sheet.words.now) (omega (arith, c.rules.ensures.is, c.if-rules-k.true))

pub invariant_of-self : goal.invariant_of-self
invariant_of-self c =
    let p = c.args.self.now in
    record { on_chain = (chain_on p.sheet.indexed (omega (arith, c.rules.ensures.is)) p.on_chain c.entry.ensures.next).0 }

pub returns-clause-steps : goal.returns-clause-steps
returns-clause-steps c =
    let p = c.args.self.now in
    let inside : p.next < length (rules_in p.sheet.words.now) = omega (arith, c.rules.ensures.is) in
    let (_, rest, _) = chain_on p.sheet.indexed inside p.on_chain c.entry.ensures.next in
    record {
      rule = rw (c.spot.ensures.sheet, c.spot.ensures.rule) rest;
      has_key = rw (c.spot.ensures.sheet, c.spot.ensures.rule) (p.on_chain.has_key inside);
      of_sheet = c.spot.ensures.sheet;
      sheet = refl;
      same_key = refl;
    }

pub returns-clause-goes : goal.returns-clause-goes
returns-clause-goes c =
    let p = c.args.self.now in
    let (_, _, further) = chain_on p.sheet.indexed (omega (arith, c.rules.ensures.is)) p.on_chain c.entry.ensures.next in
    record { on = λ _. (tt, tt, omega (arith, further, c.rules.ensures.is)); keeps = tt; rests = λ _. tt }
