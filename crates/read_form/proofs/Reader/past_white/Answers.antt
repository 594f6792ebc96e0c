-- `past_white` meets its contract.
use mathlib.Core.Path.{sym, ◌∙◌}
use native.Mathlib.Omega.{arith}
use Rattle.chars.proofs.ClassLaws.{seen_other}
use Rattle.read_runs.proofs.RunLaws.{no_white_run}
use Rattle.read_form.proofs.ReadingLaws.{past_within}
use Rattle.read_form.proofs.Reader.past_white.Goals as goal

pub returns-then-ne-clause-is : goal.returns-then-ne-clause-is
returns-then-ne-clause-is c =
    let here = c.look-here.ensures in
    let none = no_white_run c.args.self.now.text.now c.args.self.now.scan.at
    (λ e. seen_other _ _ (sym c.ne.ensures ∙ c.if-ne.true) (here.class ∙ e)) in
    omega (arith, here.at, none)

pub overflow_add-here : goal.overflow_add-here
overflow_add-here c = omega (arith, past_within _ c.look-here.ensures.at c.rest.ensures c.white_length.ensures c.requires)

pub returns-clause-within : goal.returns-clause-within
returns-clause-within c = rw c.look.ensures.at (past_within _ c.look-here.ensures.at c.rest.ensures c.white_length.ensures c.requires)
