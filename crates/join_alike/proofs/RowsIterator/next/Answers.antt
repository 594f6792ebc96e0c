-- `next` meets its contract: the next rule of S makes the first of the joint rules that are left.
use mathlib.Core.Path.{refl}
use Rattle.model.specs.Index.{rules_in}
use Rattle.join_pairs.specs.Sides.{sizes_of}
use Rattle.join_alike.proofs.AlikeLaws.{rows_next, rows_none}
use Rattle.join_alike.proofs.RowsIterator.next.Goals as goal

pub returns-in_err-rule-clause-steps : goal.returns-in_err-rule-clause-steps
returns-in_err-rule-clause-steps c =
    let p = c.args.self.now in
    rw c.from_residual.ensures (rows_none (sizes_of p.sizes) (rules_in p.others.words.now) c.in_err-rule.ensures.steps)

pub returns-clause-steps : goal.returns-clause-steps
returns-clause-steps c =
    let p = c.args.self.now in
    record {
      joint = rows_next (sizes_of p.sizes) (rules_in p.others.words.now) c.in_ok-rule.ensures.steps.rule;
      of_S = c.in_ok-rule.ensures.steps.of_sheet;
      others = refl;
      sizes = refl;
      same_S = c.in_ok-rule.ensures.steps.sheet;
      same_T = refl;
      same_sizes = refl;
    }
