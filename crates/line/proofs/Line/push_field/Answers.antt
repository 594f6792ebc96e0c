-- `push_field` meets its contract: a space, and the digits that the library gives.
use mathlib.Core.Path.{ap, ◌∙◌}
use mathlib.Core.List.{◌++◌, append_assoc}
use Rattle.model.specs.Line.{bytes}
use Rattle.line.proofs.DecimalLaws.{field-digits}
use Rattle.line.proofs.Line.push_field.Goals as goal

pub returns-clause-field : goal.returns-clause-field
unfolding bytes
returns-clause-field c =
    let digits = field-digits c.decimal-count.ensures.len c.decimal-count.ensures.digits in
    c.push-2.ensures ∙ rw (c.push.ensures, append_assoc) (ap (λ run. c.args.self.now ++ run) digits)
