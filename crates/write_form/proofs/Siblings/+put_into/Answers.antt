-- `put_into` meets its contract: each turn of the loop is by the laws of a text or of an element, with its own
-- premises put together first.
use mathlib.Core.Path.{◌≡◌, refl, sym}
use mathlib.Core.Logic.{◌≢◌}
use mathlib.Core.List.{List}
use Prim.Native.Nat.{ℕ}
use native.Mathlib.Omega.{arith}
use Rattle.model.specs.Names.{name_of}
use Rattle.model.specs.Tree.{of_tag, symbol_of}
use Rattle.model.specs.Tree as model
use Rattle.symbols.specs.Meaning.{meaning}
use Rattle.symbols.specs.declared.Symbol.{Symbol}
use Rattle.symbols.specs.declared.Symbol.TheVariants as variants
use Rattle.write_nodes.specs.declared.Node.{Node}
use Rattle.write_bytes.specs.Put.{Writes, start_tag}
use Rattle.write_bytes.specs.declared.Form.{Form}
use Rattle.write_form.specs.Forms.{Ready, NodeNext}
use Rattle.write_form.specs.declared.Siblings.{Siblings}
use Rattle.write_form.proofs.Loops.{text_asks, text_leaves, TagTurn, element_named, element_deep, element_ends, element_inside}
use Rattle.write_form.proofs.Loops.{empty_asks, empty_leaves, start_asks, Opened, inside_asks, end_asks, full_leaves}
use Rattle.write_form.proofs.Loops.{Along, TagTurnOf, node_of, turn, along_next, along_end}
use Rattle.write_form.proofs.Siblings.+put_into.Goals as goal

-- a turn of the loop, once its node is read, which is a tag
tag-turn : {s it rest : Siblings} {p q : Form} {i : ℕ} {n : Node} {a : ℕ} → Along s it p q → NodeNext it i rest → Ready s p
    → n ≡ node_of s i → of_tag a ≡ symbol_of n.symbol → TagTurnOf s p q i n a
tag-turn l x r e k = record { turn = turn l x r e; says = sym k }

-- its start tag is put
opened : {list source tree : List ℕ} {levels first end : ℕ} {p q : Form} {i : ℕ} {n : Node} {a : ℕ} {name : List ℕ} {r : Form}
    → TagTurn list source tree levels first end p q i n a → name ≡ name_of list a → n.size ≢ 1 → Writes q (start_tag name) r
    → Opened list source tree levels first end p q i n a name r
opened t e k w = record { turn = t; named = e; some = k; start = w }

-- the node is no tag
no-tag : {m : model.Symbol} (r : Symbol) → meaning r ≡ m → ((a : ℕ) → r ≢ variants.Tag a) → (a : ℕ) → m ≢ of_tag a
no-tag (variants.Tag a) e k b q = k a refl
no-tag (variants.Text x) e k b q = cc
no-tag variants.Nothing e k b q = cc

pub name_of-name-requires : goal.name_of-name-requires
name_of-name-requires t c =
    element_named (tag-turn c.loop-i.invariant.2 c.in-Some.ensures.steps c.requires c.node-node.ensures c.in-Tag.ensures)

pub put_empty_tag-requires : goal.put_empty_tag-requires
put_empty_tag-requires t c =
    let u = tag-turn c.loop-i.invariant.2 c.in-Some.ensures.steps c.requires c.node-node.ensures c.in-Tag.ensures in
    empty_asks u c.name_of-name.ensures c.if-size-eq1.true

pub loop-i-preserved-then-size-eq1 : goal.loop-i-preserved-then-size-eq1
loop-i-preserved-then-size-eq1 t c =
    let u = tag-turn c.loop-i.invariant.2 c.in-Some.ensures.steps c.requires c.node-node.ensures c.in-Tag.ensures in
    let left = empty_leaves u c.name_of-name.ensures c.if-size-eq1.true c.put_empty_tag.ensures in
    (tt, tt, along_next c.loop-i.invariant.2 c.in-Some.ensures.steps c.node-node.ensures left)

pub overflow_add-content-else-size-eq1 : goal.overflow_add-content-else-size-eq1
overflow_add-content-else-size-eq1 t c =
    let u = tag-turn c.loop-i.invariant.2 c.in-Some.ensures.steps c.requires c.node-node.ensures c.in-Tag.ensures in
    omega (arith, element_ends u)

pub invariant_of-content : goal.invariant_of-content
invariant_of-content t c =
    let u = tag-turn c.loop-i.invariant.2 c.in-Some.ensures.steps c.requires c.node-node.ensures c.in-Tag.ensures in
    record { standing = element_inside u }

pub put_start_tag-requires : goal.put_start_tag-requires
put_start_tag-requires t c =
    let u = tag-turn c.loop-i.invariant.2 c.in-Some.ensures.steps c.requires c.node-node.ensures c.in-Tag.ensures in
    start_asks u c.name_of-name.ensures c.if-size-eq1.false

pub overflow_sub-content : goal.overflow_sub-content
overflow_sub-content t c =
    let u = tag-turn c.loop-i.invariant.2 c.in-Some.ensures.steps c.requires c.node-node.ensures c.in-Tag.ensures in
    omega (arith, element_deep u)

pub put_into-requires : goal.put_into-requires
put_into-requires t c =
    let u = tag-turn c.loop-i.invariant.2 c.in-Some.ensures.steps c.requires c.node-node.ensures c.in-Tag.ensures in
    let p = opened u c.name_of-name.ensures c.if-size-eq1.false c.put_start_tag.ensures in
    (omega (arith, element_deep u), inside_asks p)

pub put_end_tag-requires : goal.put_end_tag-requires
put_end_tag-requires t c =
    let u = tag-turn c.loop-i.invariant.2 c.in-Some.ensures.steps c.requires c.node-node.ensures c.in-Tag.ensures in
    let p = opened u c.name_of-name.ensures c.if-size-eq1.false c.put_start_tag.ensures in
    end_asks p c.put_into.ensures

pub loop-i-preserved-else-size-eq1 : goal.loop-i-preserved-else-size-eq1
loop-i-preserved-else-size-eq1 t c =
    let u = tag-turn c.loop-i.invariant.2 c.in-Some.ensures.steps c.requires c.node-node.ensures c.in-Tag.ensures in
    let p = opened u c.name_of-name.ensures c.if-size-eq1.false c.put_start_tag.ensures in
    let left = full_leaves p c.put_into.ensures c.put_end_tag.ensures in
    (tt, tt, along_next c.loop-i.invariant.2 c.in-Some.ensures.steps c.node-node.ensures left)

pub put_text-requires : goal.put_text-requires
put_text-requires t c =
    let none = no-tag _ c.from.ensures c.in_default.not-Tag in
    let asks = text_asks (turn c.loop-i.invariant.2 c.in-Some.ensures.steps c.requires c.node-node.ensures) none in
    record { within = asks.0; room = asks.1 }

pub loop-i-preserved : goal.loop-i-preserved
loop-i-preserved t c =
    let none = no-tag _ c.from.ensures c.in_default.not-Tag in
    let u = turn c.loop-i.invariant.2 c.in-Some.ensures.steps c.requires c.node-node.ensures in
    (tt, tt, along_next c.loop-i.invariant.2 c.in-Some.ensures.steps c.node-node.ensures (text_leaves u none c.put_text.ensures))

pub returns : goal.returns
returns t c = along_end c.loop-i.invariant.2 c.in-None.ensures.steps
