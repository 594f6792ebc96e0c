-- `write_texts::good_text` meets its contract.
use Rattle.write_texts.proofs.TextLaws.{good_past, good-here}
use Rattle.write_nodes.specs.Nodes.{span_of}
use native.Mathlib.Omega.{arith}
use Rattle.write_texts.proofs.good_text.Goals as goal

pub returns-in_default : goal.returns-in_default
returns-in_default c = good_past _ (span_of c.args.node) c.args.kind (omega (arith, c.in_default.ensures.lookup))

pub returns : goal.returns
returns c =
    let l = c.in-Some.ensures.lookup.0 in
    good-here _ (span_of c.args.node) _ _ l.1 l.2 c.trimmed.ensures c.kind_of.ensures c.eq.ensures
