-- `chars::kind_of` meets its contract: all bytes are digits, or one is none.
use mathlib.Core.Path.{sym}
use borrow.Author.Rules.{rules}
use borrow.Author.Tests.{tests}
use Rattle.std.proofs.lemmas.Iterator.{YieldsList-from_slice}
use Rattle.std.proofs.lemmas.Iterator.Search.{all_from_yields_List}
use Rattle.model.specs.Bytes.{digit_byte, kind_of_text}
use Rattle.chars.proofs.ClassLaws.{every_all}
use Rattle.chars.proofs.kind_of.Goals as goal

pub returns-then-all : goal.returns-then-all
unfolding kind_of_text
returns-then-all c =
    let all = all_from_yields_List digit_byte _ _ c.all.result c.all.ensures.ran (YieldsList-from_slice c.args.text.now cc)
    (λ x b q k. search (rules, tests)) in
    rw (every_all digit_byte c.args.text.now, sym all, c.if-all.true)

pub returns-else-all : goal.returns-else-all
unfolding kind_of_text
returns-else-all c =
    let all = all_from_yields_List digit_byte _ _ c.all.result c.all.ensures.ran (YieldsList-from_slice c.args.text.now cc)
    (λ x b q k. search (rules, tests)) in
    rw (every_all digit_byte c.args.text.now, sym all, c.if-all.false)
