-- `Symbol::from` meets its contract: each arm computes the model's answer.
use native.Mathlib.Omega.{arith}
use borrow.Author.Tests.{ne_eqb}
use Rattle.model.specs.Tree.{symbol_of}
use Rattle.symbols.proofs.SymbolFromU32.from.Goals as goal

pub returns-then-word-eq0 : goal.returns-then-word-eq0
unfolding symbol_of
returns-then-word-eq0 c = rw c.if-word-eq0.true

pub returns-then-word-lt-INTEGER_TEXT : goal.returns-then-word-lt-INTEGER_TEXT
unfolding symbol_of
returns-then-word-lt-INTEGER_TEXT c =
    let w = c.args.word in rw (ne_eqb w 65 (omega arith), ne_eqb w 66 (omega arith), ne_eqb w 0 (omega arith))

pub returns-in-65 : goal.returns-in-65
unfolding symbol_of
returns-in-65 c = rw c.in-65.is

pub returns-in-66 : goal.returns-in-66
unfolding symbol_of
returns-in-66 c = rw c.in-66.is

pub returns-in_default : goal.returns-in_default
unfolding symbol_of
returns-in_default c = let w = c.args.word in rw (ne_eqb w 65 (omega arith), ne_eqb w 66 (omega arith), ne_eqb w 0 (omega arith))
