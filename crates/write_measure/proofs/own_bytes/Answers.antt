-- `write_measure::own_bytes` meets its contract, by what the symbol says.
use mathlib.Core.Path.{◌≡◌, sym, ap}
use mathlib.Core.Bool.{not}
use mathlib.Core.List.{List}
use Prim.Native.Nat.{ℕ, ◌≤◌}
use native.Mathlib.Omega.{arith}
use lib.ListN.{length}
use Rattle.model.specs.Names.{name_of}
use Rattle.write_nodes.specs.Nodes.{Tag}
use Rattle.write_nodes.proofs.TagLaws.{tag_short}
use Rattle.write_measure.proofs.NodeLaws.{own_nothing, own_text, text_wrong, tag_wrong, own_pair, own_empty}
use Rattle.write_measure.proofs.own_bytes.Goals as goal

-- a tag's name is short
short : {list name : List ℕ} {a : ℕ} → Tag list a → name ≡ name_of list a → length name ≤ 24
short t e = omega (arith, tag_short t, ap length e)

pub returns-then-not-node-clause-is : goal.returns-then-not-node-clause-is
returns-then-not-node-clause-is c = tag_wrong _ _ _ c.from.ensures c.in-Tag.is (ap not c.if-not-node.true)

pub overflow_add-result : goal.overflow_add-result
overflow_add-result c = omega (arith, short (c.requires _ (sym c.in-Tag.ensures)) c.name_of-name.ensures)

pub returns-then-node-ne1-clause-is : goal.returns-then-node-ne1-clause-is
returns-then-node-ne1-clause-is c =
    own_pair _ _ _ c.from.ensures c.in-Tag.is (ap not c.if-not-node.false) c.name_of-name.ensures c.if-node-ne1.true

pub returns-then-node-ne1-clause-small : goal.returns-then-node-ne1-clause-small
returns-then-node-ne1-clause-small c = omega (arith, short (c.requires _ (sym c.in-Tag.ensures)) c.name_of-name.ensures)

pub returns-then-not-good_text-clause-is : goal.returns-then-not-good_text-clause-is
returns-then-not-good_text-clause-is c =
    text_wrong _ _ _ c.from.ensures c.in-Text.is c.good_text.ensures (ap not c.if-not-good_text.true)

pub returns-else-node-ne1-clause-is : goal.returns-else-node-ne1-clause-is
returns-else-node-ne1-clause-is c =
    own_empty _ _ _ c.from.ensures c.in-Tag.is (ap not c.if-not-node.false) c.name_of-name.ensures c.if-node-ne1.false

pub returns-else-node-ne1-clause-small : goal.returns-else-node-ne1-clause-small
returns-else-node-ne1-clause-small c = omega (arith, short (c.requires _ (sym c.in-Tag.ensures)) c.name_of-name.ensures)

pub returns-else-not-good_text-clause-is : goal.returns-else-not-good_text-clause-is
returns-else-not-good_text-clause-is c =
    own_text _ _ _ c.from.ensures c.in-Text.is c.good_text.ensures (ap not c.if-not-good_text.false)

pub returns-in-Nothing-clause-is : goal.returns-in-Nothing-clause-is
returns-in-Nothing-clause-is c = own_nothing _ _ _ c.from.ensures c.in-Nothing.is
