-- `ending` meets its contract.
use native.Mathlib.Omega.{arith}
use Rattle.read_pass.proofs.Readings.{after_stuck, whole_read}
use Rattle.read_form.proofs.Reader.ending.Goals as goal

pub returns-then-seen-self : goal.returns-then-seen-self
returns-then-seen-self c =
    let (done, r) = c.requires in
    let seen = c.past_white-seen.ensures in
    rw c.stopped.ensures (after_stuck r (omega arith) _ seen.is _ seen.class c.if-seen-self.true)

pub returns : goal.returns
returns c =
    let (done, r) = c.requires in
    whole_read r (omega arith) _ c.past_white-seen.ensures.is c.if-seen-self.false
