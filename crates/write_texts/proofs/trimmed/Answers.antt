-- `write_texts::trimmed` meets its contract: the flag and the test of what is left give the test of all.
use borrow.Author.Rules.{rules}
use Rattle.write_texts.proofs.TextLaws.{flag_next, trimmed_none, trimmed_white, trimmed_solid}
use Rattle.write_texts.proofs.trimmed.Goals as goal

pub returns-in_default : goal.returns-in_default
returns-in_default c = trimmed_none _ c.in_default.ensures.value

pub returns-then-is_white : goal.returns-then-is_white
returns-then-is_white c =
    let x = c.in-Some.ensures.item.3 in
    let y = c.in-Some-last.ensures.item.3 in
    trimmed_white _ x.0 (x.1 0) (y.1 0) c.is_white.ensures c.is_white-2.ensures c.if-is_white.true

pub loop-byte-preserved : goal.loop-byte-preserved
loop-byte-preserved c = search (flag_next, rules)

pub returns : goal.returns
returns c =
    let x = c.in-Some.ensures.item.3 in
    let y = c.in-Some-last.ensures.item.3 in
    trimmed_solid _ x.0 (x.1 0) (y.1 0) c.is_white.ensures c.is_white-2.ensures c.if-is_white.false _ _ c.loop-byte.invariant
    c.loop-byte-test.false
