-- `write_measure::measure` meets its contract: what is left to measure, with the bytes so far, gives the measure of all.
use mathlib.Core.Path.{◌≡◌}
use native.Mathlib.Nat.{sub-zero}
use native.Mathlib.Omega.{arith}
use borrow.Author.Rules.{rules}
use Rattle.std.specs.Prelude.{Some, None}
use Rattle.std.proofs.lemmas.Result.{err_from_is_err_and}
use Rattle.write_measure.proofs.NodeLaws.{own_small, measured-end, measured-next, measured_stop, node_tag}
use Rattle.write_measure.proofs.measure.Goals as goal

pub loop-i-init : goal.loop-i-init
loop-i-init c = (search rules, rw (sub-zero, c.nodes-nodes.ensures))

pub own_bytes-requires : goal.own_bytes-requires
own_bytes-requires c = search (node_tag, rules)

pub overflow_add-bytes : goal.overflow_add-bytes
overflow_add-bytes c =
    let own : c.own_bytes.result ≡ Some c.in_ok-bytes.field-0 = grind arith in
    omega (arith, own_small c.own_bytes.ensures.small own, c.requires.few)

pub loop-i-preserved : goal.loop-i-preserved
loop-i-preserved c =
    let own : c.own_bytes.result ≡ Some c.in_ok-bytes.field-0 = grind arith in
    (omega (arith, own_small c.own_bytes.ensures.small own), search (measured-next, rules))

pub returns-in_err-bytes : goal.returns-in_err-bytes
returns-in_err-bytes c =
    let p = err_from_is_err_and c.from_residual.result c.from_residual.ensures.1 in
    let own : c.own_bytes.result ≡ None = grind arith in
    let named = rw own at c.in_err-bytes.ensures.value in
    rw (p.1, p.2, named) (measured_stop _ _ _ _ _ _ c.loop-i.invariant.1 c.loop-i-test.true c.node.ensures c.own_bytes.ensures.is own)

pub returns : goal.returns
returns c = search (measured-end, rules)
