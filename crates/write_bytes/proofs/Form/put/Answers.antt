-- `put` meets its contract: what is left to store gives what is to be stored.
use mathlib.Core.Path.{refl, sym, ◌∙◌}
use native.Mathlib.Nat.{add-zero}
use native.Mathlib.Omega.{arith}
use Rattle.write_bytes.proofs.Stores.{copy_next, copy_end}
use Rattle.write_bytes.proofs.Form.put.Goals as goal

pub loop-i-init : goal.loop-i-init
loop-i-init c = rw add-zero

pub loop-i-preserved : goal.loop-i-preserved
loop-i-preserved c = sym (copy_next _ _ _ _ (omega (arith, c.loop-i-test.true))) ∙ c.loop-i.invariant

pub returns : goal.returns
returns c = record {
  same = refl;
  is = record { next_is = refl; buffer = sym (copy_end _ _ _ _ (omega (arith, c.loop-i-test.false))) ∙ c.loop-i.invariant };
}
