-- `chain` meets its contract: the index tells the first rule with the key.
use mathlib.Core.Path.{refl, sym, ◌∙◌}
use native.Mathlib.Omega.{arith}
use Rattle.model.specs.Index.{rules_in}
use Rattle.indexed.proofs.WalkLaws.{heads-there, chain_none, chain_begun, chain_over}
use Rattle.indexed.proofs.IndexedSheet.chain.Goals as goal

pub returns-then-key-ge-KEYS-clause-all : goal.returns-then-key-ge-KEYS-clause-all
returns-then-key-ge-KEYS-clause-all c =
    chain_over c.args.key (rules_in c.args.self.now.words.now) (omega (arith, c.rules.ensures.is))
    ∙ sym (chain_none c.args.self.now.indexed c.if-key-ge-KEYS.true)

pub bounds-self-key : goal.bounds-self-key
bounds-self-key c = heads-there c.args.self.now.indexed c.if-key-ge-KEYS.false

pub invariant_of-result-2 : goal.invariant_of-result-2
invariant_of-result-2 c = record { on_chain = (chain_begun c.args.self.now.indexed c.if-key-ge-KEYS.false refl).0 }

pub returns-clause-all : goal.returns-clause-all
returns-clause-all c = (chain_begun c.args.self.now.indexed c.if-key-ge-KEYS.false refl).1
