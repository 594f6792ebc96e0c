-- `tree::children` meets its contract. The measure is the remaining depth. The loop's invariant: the children from node i on
-- come to what they all come to.
use mathlib.Core.Path.{◌≡◌}
use mathlib.Core.Bool.{false}
use Prim.Native.Nat.{◌-◌}
use Rattle.tree.specs.Shape.{shape_at}
use Rattle.tree.proofs.+children.Given as goal

abbrev pub decreases-children : goal.decreases-children
decreases-children l = l.levels

abbrev pub invariant-loop-seen : goal.invariant-loop-seen
invariant-loop-seen l =
    let t = l.tree.words.now in
    shape_at t l.tree.tags l.levels l.first l.end false ≡ shape_at t l.tree.tags l.levels l.i l.end l.after_text

abbrev pub decreases-loop-seen : goal.decreases-loop-seen
decreases-loop-seen l = l.end - l.i
