-- `form` meets its contract: between two tokens the text is read so far.
use Prim.Native.Nat.{◌-◌}
use lib.ListN.{length}
use Rattle.read_form.specs.Readings.{Same, AtToken}
use Rattle.read_form.proofs.Reader.form.Given as goal

abbrev pub invariant-loop-self : goal.invariant-loop-self
invariant-loop-self l = Same l.initial.self l.self × AtToken l.self

abbrev pub decreases-loop-self : goal.decreases-loop-self
decreases-loop-self l = length l.self.text.now - l.self.scan.at
