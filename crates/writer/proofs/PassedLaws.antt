-- A tree that passed its check, over a name list that passed: what the pass over its nodes gives, and the document that stands in it.
use mathlib.Core.Path.{◌≡◌, refl, ap, ◌∙◌}
use mathlib.Core.Bool.{false}
use mathlib.Core.List.{List, append-nil}
use Prim.Native.Nat.{ℕ, ◌+◌, ◌*◌, ◌/◌, ◌≤◌}
use native.Mathlib.Omega.{arith}
use lib.Dec.{eqb}
use lib.ListN.{length}
use Rattle.std.specs.Prelude.{Ok}
use Rattle.model.specs.Answers.{Answer, said, Checked, passes, refuses, ◌>>=◌, ◌>>◌}
use Rattle.model.specs.Calls.{names_said, tree_said}
use Rattle.model.specs.Tree.{tag, size, Document, ε, ◌·◌, nodes, symbol_at, size_at, span_at, tag_symbol, children_by, children, words}
use Rattle.model.specs.Tree.{Over, tree_of}
use Rattle.model.specs.Written.{written, writtenD, texts_checked}
use Rattle.model.proofs.Answered.{names-counted, tree_counted}
use Rattle.model.proofs.CheckLaws.{passes_inj, bind_inv, required}
use Rattle.model.proofs.DocumentLaws.{GoodNodes, texts-good}
use Rattle.model.proofs.NameLaws.{few-names}
use Rattle.model.proofs.Tests.{Yes, and_left, and_right, same}
use Rattle.model.proofs.TreeLaws.{length-nodes, length-words, tree_passes}
use Rattle.model.proofs.TreeView.{tag_no_text, look-end, look_element, children-seen}
use Rattle.write_nodes.proofs.FirstLaws.{some_size}
use Rattle.write_measure.specs.Lengths.{measured, Tags}
use Rattle.write_measure.proofs.LengthLaws.{total, length-written}
use Rattle.write_measure.proofs.Listing.{Listed, listed, measured-listed, listed-named}
use Rattle.write_form.specs.Stands.{Stands}
use Rattle.writer.specs.Passed.{Passed}

-- node 0 with what stands from node 1 on, as the one child of nodes 0 to n − 1
one_child : (t : List ℕ) (g n : ℕ) (d : Document) → g ≤ 64 → 1 ≤ n → n ≤ length t → Yes (tag_symbol g (symbol_at t 0)) → size_at t 0 ≡ n
    → children t g (length t) 31 1 n false ≡ passes d
    → children t g (length t) 32 0 n false ≡ passes (tag (symbol_at t 0) (span_at t 0) d · ε)
unfolding children_by ◌>>=◌
one_child t g n d small some fits y z r =
    let next : 0 + size_at t 0 ≡ n = omega arith in
    children-seen t g 32 0 n false fits
    (look_element t g 32 0 n false (tag_no_text g (symbol_at t 0) small y) y (omega arith) (omega arith) (omega arith))
    ∙ rw (next, r, children-seen t g 32 n n false fits (look-end t g 32 n n false (omega arith)))

-- by the answers of the checks
pub checks_passed : {list source tree : List ℕ} {g n : ℕ} {named shaped : Answer} → said named ≡ names_said list → named ≡ Ok g
    → length source ≤ 65535 → said shaped ≡ tree_said g tree → shaped ≡ Ok n → Passed list source tree
checks_passed {list} {tree = tree} {g} h k short u v =
    let (e, shape, _) = tree_counted g tree u v in
    record { tags = g; names = names-counted list h k; short = short; root = e; shape = shape }

module _ {list source tree : List ℕ} (p : Passed list source tree) where
  few : p.tags ≤ 64
  few = few-names list p.tags p.names

  words-over : (tree ≡ words p.root) × Over p.tags p.root
  words-over = (tree_passes p.tags few tree p.root).0 p.shape

  tree_length : length tree ≡ 4 * size p.root
  tree_length = ap length words-over.0 ∙ length-words p.root

  root-read : children tree p.tags (length tree) 32 0 (length tree / 4) false ≡ passes (p.root · ε)
  unfolding tree_of
  root-read =
      let (x, q) = (required _ _ _ _).0 p.shape in
      let (y, r) = (required _ _ _ _).0 q in
      let (d, s, z) = bind_inv _ _ r in
      let is_tag = tag_symbol p.tags (symbol_at tree 0) in
      let is_whole = eqb (size_at tree 0) (length tree / 4) in
      rw (← passes_inj z)
      (one_child tree p.tags (length tree / 4) d few (omega (arith, tree_length, some_size p.root)) (omega arith)
      (and_left is_tag is_whole y) (same (size_at tree 0) (length tree / 4) (and_right is_tag is_whole y)) s)

  pub passed-form : writtenD list source (p.root · ε) ≡ written list source p.root
  unfolding written
  passed-form = append-nil (written list source p.root)

  nodes-listed : Listed list source tree 0 (nodes p.root)
  unfolding nodes
  nodes-listed = rw append-nil at (listed list source tree p.tags p.names (p.root · ε) 32 0 (length tree / 4) false
      (omega (arith, tree_length)) root-read)

  pub passed-tags : Tags list tree
  passed-tags = record {
    few = omega (arith, tree_length, words-over.1.few);
    each = λ i h. listed-named list source tree (nodes p.root) 0 i nodes-listed (omega arith)
        (omega (arith, tree_length, length-nodes p.root));
  }

  pub passed-measured : measured list source tree (length tree / 4) 0 0 ≡
      (texts_checked source 0 (nodes p.root) >> passes (length (written list source p.root)))
  unfolding ◌>>◌
  passed-measured =
      let m : length tree / 4 ≡ length (nodes p.root) = omega (arith, tree_length, length-nodes p.root) in
      rw m (measured-listed list source tree (nodes p.root) 0 0 nodes-listed
      ∙ go (texts_checked source 0 (nodes p.root)) refl)
    where
      go : (c : Checked (Unit {0})) → texts_checked source 0 (nodes p.root) ≡ c
          → (c >> passes (0 + total list (nodes p.root))) ≡ (c >> passes (length (written list source p.root)))
      go (passes u) q = ap passes (omega (arith, length-written list source p.root ((texts-good source 0 (nodes p.root)).0 q)))
      go (refuses m i) q = refl

  pub passed-stands : GoodNodes source (nodes p.root) → Stands list source tree 32 0 (length tree / 4) (p.root · ε)
  unfolding nodes
  passed-stands h = record {
    tags = p.tags;
    after_text = false;
    names = p.names;
    within = omega (arith, tree_length);
    read = root-read;
    good = rw append-nil h;
  }
