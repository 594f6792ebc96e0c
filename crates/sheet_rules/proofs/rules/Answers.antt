-- `sheet_rules::rules` meets its contract.
use native.Mathlib.Omega.{arith}
use Rattle.sheet_walk.proofs.WalkLaws.{leads_bad, leads_done}
use Rattle.sheet_rules.proofs.PlaceLaws.{noting_none, noting_more, noting_stops, noting_all}
use Rattle.sheet_rules.proofs.rules.Goals as goal

pub loop-i-init : goal.loop-i-init
loop-i-init c = noting_none

pub returns-in_err-rule : goal.returns-in_err-rule
returns-in_err-rule c =
    let h = c.loop-i.invariant in
    record {
      end = leads_bad h.leads (omega arith) c.rule.ensures c.in_err-rule.was c.from_residual.ensures;
      places = noting_stops h (omega arith) c.rule.ensures c.in_err-rule.was;
    }

pub loop-i-preserved : goal.loop-i-preserved
loop-i-preserved c = noting_more c.loop-i.invariant (omega arith) c.rule.ensures c.in_ok-rule.was c.put_place.ensures

pub returns : goal.returns
returns c = let h = c.loop-i.invariant in record { end = leads_done h.leads (omega arith); places = noting_all h (omega arith) }
