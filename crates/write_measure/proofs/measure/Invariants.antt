-- `write_measure::measure` meets its contract: what is left to measure, with the bytes so far, gives the measure of all.
use mathlib.Core.Path.{◌≡◌}
use Prim.Native.Nat.{◌-◌, ◌*◌, ◌/◌, ◌≤◌}
use lib.ListN.{length}
use Rattle.write_measure.specs.Lengths.{measured}
use Rattle.write_measure.proofs.measure.Given as goal

abbrev pub invariant-loop-i : goal.invariant-loop-i
invariant-loop-i l =
    let s = l.sources in
    (l.bytes ≤ 4294967296 * l.i) ×
    (measured s.list.now s.text.now s.tree.now (length s.tree.now / 4) 0 0
    ≡ measured s.list.now s.text.now s.tree.now (l.nodes - l.i) l.i l.bytes)
