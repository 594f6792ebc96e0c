-- `next` meets its contract: the next rule of the chain makes the first of the joint rules that are left.
use mathlib.Core.Path.{refl}
use Rattle.indexed.specs.Rules.{rule_of}
use Rattle.join_pairs.specs.Sides.{sizes_of}
use Rattle.join_alike.proofs.AlikeLaws.{pairs_next, pairs_none}
use Rattle.join_alike.proofs.PairsIterator.next.Goals as goal

pub returns-in_err-t-clause-steps : goal.returns-in_err-t-clause-steps
returns-in_err-t-clause-steps c =
    let p = c.args.self.now in rw c.from_residual.ensures (pairs_none (sizes_of p.sizes) (rule_of p.rule) c.in_err-t.ensures.steps)

pub returns-clause-steps : goal.returns-clause-steps
returns-clause-steps c =
    let p = c.args.self.now in
    record {
      joint = pairs_next (sizes_of p.sizes) (rule_of p.rule) c.in_ok-t.ensures.steps.rule;
      rule = refl;
      of_T = c.in_ok-t.ensures.steps.of_sheet;
      sizes = refl;
      same_rule = refl;
      same_T = c.in_ok-t.ensures.steps.sheet;
      same_sizes = refl;
    }
