-- `tree_look::is_tag` meets its contract.
use mathlib.Core.Path.{◌≡◌}
use mathlib.Core.Bool.{cond}
use Prim.Native.Nat.{ℕ, suc}
use native.Mathlib.Omega.{arith}
use lib.Dec.{eqb, leb}
use Rattle.std.proofs.Common.{is_le, Less, Equal, Greater}
use Rattle.model.specs.Tree.{tag_symbol}
use Rattle.tree_look.proofs.is_tag.Goals as goal

-- the comparison of numbers tests their order
ordered : (a b : ℕ) → is_le (cond (leb (suc a) b) Less (cond (eqb a b) Equal Greater)) ≡ leb a b
ordered a b = grind arith

pub returns : goal.returns
unfolding tag_symbol
returns c = rw (c.contains.ensures.value, c.new.ensures.start, c.new.ensures.end, c.new.ensures.exhausted)
    (cc (ordered 1 c.args.symbol, ordered c.args.symbol c.args.tags))
