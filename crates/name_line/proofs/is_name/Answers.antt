-- `name_line::is_name` meets its contract: past the first byte, a letter, all bytes of the rest are a name's.
use mathlib.Core.Path.{sym, ◌∙◌}
use Rattle.std.proofs.Common.{rules, tests}
use Rattle.std.proofs.lemmas.Iterator.{YieldsList-from_slice}
use Rattle.std.proofs.lemmas.Iterator.Search.{all_from_yields_List}
use Rattle.model.specs.Bytes.{name_byte}
use Rattle.model.proofs.Tests.{yes_not}
use Rattle.chars.proofs.ClassLaws.{not_no, letter_by_class, name_by_class, every_all}
use Rattle.name_line.proofs.Names.{name_none, name_no, name_yes}
use Rattle.name_line.proofs.is_name.Goals as goal

pub returns-in_default : goal.returns-in_default
returns-in_default c = sym (name_none _ c.in_default.ensures.cases)

pub returns-then-ne : goal.returns-then-ne
returns-then-ne c = sym (name_no c.in-Some.ensures.cases.0 (sym (letter_by_class _ _ c.from.ensures) ∙
    yes_not _ (sym c.ne.ensures ∙ c.if-ne.true)))

pub returns : goal.returns
returns c =
    let all = all_from_yields_List name_byte _ _ _ c.all.ensures.ran (YieldsList-from_slice _ c.iter.ensures.rest)
    (λ x b q k. search (rules, tests, name_by_class)) in
    all ∙ sym (every_all name_byte _) ∙ sym (name_yes c.in-Some.ensures.cases.0 (sym (letter_by_class _ _ c.from.ensures) ∙
    not_no _ (sym c.ne.ensures ∙ c.if-ne.false)))
