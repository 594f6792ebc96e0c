-- `next` meets its contract: a node has a size, so something stands behind it, or nothing.
use mathlib.Core.Path.{refl, ap}
use Prim.Native.Nat.{◌+◌}
use native.Mathlib.Omega.{arith}
use Rattle.write_nodes.specs.declared.Node.{Node}
use Rattle.write_form.proofs.Standing.{standing-behind}
use Rattle.write_form.proofs.SiblingsIterator.next.Goals as goal

pub node-requires : goal.node-requires
node-requires c = let b = standing-behind c.if-self-i.false c.args.self.now.standing in omega (arith, b.3)

pub overflow_add-self : goal.overflow_add-self
overflow_add-self c =
    let b = standing-behind c.if-self-i.false c.args.self.now.standing in
    omega (arith, b.2, ap (λ (n : Node). n.size) c.node.ensures)

pub invariant_of-self : goal.invariant_of-self
invariant_of-self c =
    let b = standing-behind c.if-self-i.false c.args.self.now.standing in
    record { standing = rw c.node.ensures b.0 }

pub returns-clause-steps : goal.returns-clause-steps
returns-clause-steps c = record {
  is = refl;
  within = c.if-self-i.false;
  sources = refl;
  end = refl;
  first = ap (λ (n : Node). c.args.self.now.first + n.size) c.node.ensures;
}

pub returns-clause-goes : goal.returns-clause-goes
returns-clause-goes c =
    let b = standing-behind c.if-self-i.false c.args.self.now.standing in
    let size = ap (λ (n : Node). n.size) c.node.ensures in
    record { on = λ _. (tt, tt, omega (arith, b.1, size)); keeps = tt; rests = λ _. tt }
