-- `read_nodes::unpack` meets its contract: the first k nodes are unpacked.
use Rattle.read_nodes.proofs.PackLaws.{Unpacked}
use Rattle.read_nodes.proofs.unpack.Given as goal

abbrev pub invariant-loop-k : goal.invariant-loop-k
invariant-loop-k l = Unpacked l.nodes l.initial.tree l.k l.tree
