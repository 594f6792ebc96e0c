-- `Line::from` meets its contract: a word, its fields and the end of the line, one after another.
use mathlib.Core.Path.{◌≡◌, sym, ap, ◌∙◌}
use mathlib.Core.List.{◌++◌}
use Rattle.model.specs.Line.{bytes, field}
use Rattle.line.specs.Words.{word_of, numbers_line, with_second}
use Rattle.line.proofs.WordLaws.{second-there, no_second}
use Rattle.line.proofs.LineFromNumbers.from.Goals.{then-ne, else-ne}
use Rattle.line.proofs.LineFromNumbers.from.Goals as goal

pub returns : goal.returns
unfolding numbers_line with_second bytes
returns c =
    let first : c.push_field.new.self ≡ word_of c.args.numbers.kind ++ field c.args.numbers.first =
    rw (c.push_field.ensures.field, c.push.ensures, c.new-line.ensures, c.word.ensures.spelt) in
    c.push-2.ensures ∙ ap (λ line. line ++ bytes "\n") (elim c.if-ne.branch [
      | then-ne w ↦ rw (w.line-is, w.push_field-then-ne.ensures.field, first, second-there _ _ _ (sym w.if-ne.true ∙ c.ne.ensures))
      | else-ne w ↦ rw (w.line-is, first, no_second _ _ _ (sym w.if-ne.false ∙ c.ne.ensures))
    ])
