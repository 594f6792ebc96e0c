-- `read_nodes::unpack` meets its contract: the first k nodes are unpacked.
use mathlib.Core.Path.{◌≡◌}
use native.Mathlib.Omega.{arith}
use native.Mathlib.Numerals.{towards_suc}
use lib.ListN.{length, take}
use lib.Seq.{take_all}
use Rattle.read_nodes.specs.Packed.{unpacked}
use Rattle.read_nodes.proofs.PackLaws.{unpacked_none, unpacked_more}
use Rattle.read_nodes.proofs.unpack.Goals as goal

pub loop-k-init : goal.loop-k-init
loop-k-init c = unpacked_none _ _

pub loop-k-preserved : goal.loop-k-preserved
unfolding unpacked
loop-k-preserved c = unpacked_more c.loop-k.invariant (omega arith) (omega arith) (simp towards_suc)

pub returns : goal.returns
returns c = let e : take c.loop-k.k c.args.nodes.now ≡ c.args.nodes.now = take_all _ _ (omega arith) in
    let k : c.loop-k.k ≡ length c.args.nodes.now = omega arith in rw (← k) (rw e at c.loop-k.invariant.front)
