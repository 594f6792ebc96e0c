-- What a node adds to the form, and the pass over the nodes.
use mathlib.Core.Path.{◌≡◌, ◌∙◌}
use mathlib.Core.Logic.{◌≢◌}
use mathlib.Core.Bool.{Bool, true, false, not}
use mathlib.Core.List.{List}
use Prim.Native.Nat.{ℕ, suc, ◌+◌, ◌-◌, ◌*◌, ◌/◌, ◌<◌, ◌≤◌}
use native.Mathlib.Omega.{arith}
use borrow.Author.Tests.{eq-eqb, ne_eqb, not-true, not-false}
use lib.ListN.{length}
use Rattle.std.specs.Prelude.{Option, Some, None, Ok, Err}
use Rattle.model.specs.Answers.{said, said_refusal, Checked, answer_of, ◌>>=◌}
use Rattle.model.specs.Names.{name_of}
use Rattle.model.specs.Bytes.{text_kind}
use Rattle.model.specs.Tree.{symbol_of}
use Rattle.model.specs.Written.{good_text}
use Rattle.model.specs.declared.TextKind.{TextKind}
use Rattle.model.specs.declared.Refusal.TheVariants.{TextWords}
use Rattle.symbols.specs.Meaning.{meaning}
use Rattle.symbols.specs.declared.Symbol.{Symbol}
use Rattle.symbols.specs.declared.Symbol.TheVariants.{Tag, Text, Nothing}
use Rattle.symbols.proofs.MeaningLaws.{means}
use Rattle.write_nodes.specs.Nodes.{node_at, span_of, TagOf}
use Rattle.write_nodes.specs.declared.Node.{Node}
use Rattle.write_measure.specs.Lengths.{blank, own_by, own_bytes, Small, added, measured, Tags}

-- ---- what a node adds, by the answer r of `Symbol::from`

module _ (list text : List ℕ) (n : Node) {r : Symbol} (m : meaning r ≡ symbol_of n.symbol) where
  pub own_nothing : r ≡ Nothing → None ≡ own_bytes list text n
  unfolding own_bytes own_by
  own_nothing q = rw (means m q)

  module _ {k : TextKind} (q : r ≡ Text k) {good : Bool} (e : good ≡ good_text text (text_kind k) (span_of n)) where
    pub own_text : not good ≡ false → Some n.bytes ≡ own_bytes list text n
    unfolding own_bytes own_by
    own_text h = rw (means m q, ← e, not-false good h)

    pub text_wrong : not good ≡ true → None ≡ own_bytes list text n
    unfolding own_bytes own_by
    text_wrong h = rw (means m q, ← e, not-true good h)

  module _ {a : ℕ} (q : r ≡ Tag a) where
    pub tag_wrong : not (blank n) ≡ true → None ≡ own_bytes list text n
    unfolding own_bytes own_by
    tag_wrong h = rw (means m q, not-true (blank n) h)

    module _ (h : not (blank n) ≡ false) {name : List ℕ} (is : name ≡ name_of list a) where
      pub own_pair : n.size ≢ 1 → Some (5 + 2 * length name) ≡ own_bytes list text n
      unfolding own_bytes own_by
      own_pair e = rw (means m q, not-false (blank n) h, ne_eqb n.size 1 e, is)

      pub own_empty : n.size ≡ 1 → Some (3 + length name) ≡ own_bytes list text n
      unfolding own_bytes own_by
      own_empty e = rw (means m q, not-false (blank n) h, eq-eqb n.size 1 e, is)

pub own_small : {own : Option ℕ} {b : ℕ} → Small own → own ≡ Some b → b < 4294967296
own_small h e = rw e at h

-- ---- the nodes from node i on, of which there are count, give the measure of all

module _ (list text tree : List ℕ) (count i sum : ℕ) {all : Checked ℕ} (left : all ≡ measured list text tree (count - i) i sum) where
  pub measured-end : count ≤ i → said (Ok sum) ≡ answer_of (λ n. n) all
  unfolding measured said answer_of
  measured-end h = let z : count - i ≡ 0 = omega arith in rw (left, z)

  module _ (h : i < count) {n : Node} (is : n ≡ node_at tree i) {own : Option ℕ} (e : own ≡ own_bytes list text n) where
    pub measured-next : {b : ℕ} → own ≡ Some b → all ≡ measured list text tree (count - (i + 1)) (i + 1) (sum + b)
    unfolding measured added ◌>>=◌
    measured-next f = let z : count - i ≡ suc (count - (i + 1)) = omega arith in left ∙ rw (z, ← is, ← e, f)

    pub measured_stop : own ≡ None → said (Err (TextWords i)) ≡ answer_of (λ n. n) all
    unfolding measured added ◌>>=◌ said said_refusal answer_of
    measured_stop f = let z : count - i ≡ suc (count - (i + 1)) = omega arith in rw (left, z, ← is, ← e, f)

-- the tag of node i, where it is one
pub node_tag : {list tree : List ℕ} {i : ℕ} {n : Node} → Tags list tree → i < length tree / 4 → n ≡ node_at tree i
    → TagOf list n.symbol
node_tag {i = i} t h is = rw is (t.each i h)
