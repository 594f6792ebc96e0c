-- `Seen::stopped` meets its contract.
use mathlib.Core.Path.{sym, ◌∙◌}
use Rattle.chars.proofs.ClassLaws.{seen_eq}
use Rattle.chars.specs.declared.Class.TheVariants.{Forbidden}
use Rattle.read_scan.proofs.Seen.stopped.Goals as goal

pub returns-then-eq : goal.returns-then-eq
returns-then-eq c = rw (sym (seen_eq c.args.self.class Forbidden) ∙ sym c.eq.ensures ∙ c.if-eq.true)

pub returns : goal.returns
returns c = rw (sym (seen_eq c.args.self.class Forbidden) ∙ sym c.eq.ensures ∙ c.if-eq.false)
