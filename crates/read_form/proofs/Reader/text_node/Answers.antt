-- `text_node` meets its contract.
use mathlib.Core.Path.{◌≡◌, refl, sym, ap, ◌∙◌}
use mathlib.Core.List.{List}
use Prim.Native.Nat.{ℕ, ◌+◌, ◌≤◌}
use native.Mathlib.Omega.{arith}
use lib.Seq.{length-take-le}
use Rattle.model.specs.Bytes.{kind_of_text}
use Rattle.model.specs.Tree.{of_text, symbol_of}
use Rattle.model.specs.Written.{text_byte}
use Rattle.model.proofs.SymbolLaws.{text_said}
use Rattle.chars.proofs.ClassLaws.{seen_same, seen_other}
use Rattle.read_runs.specs.Runs.{run}
use Rattle.read_runs.proofs.RunLaws.{run-most, run-within}
use Rattle.read_pass.proofs.Readings.{text_many, text_stuck, text_later, text_short, text_read}
use Rattle.read_form.proofs.ReadingLaws.{stays}
use Rattle.read_form.proofs.Reader.text_node.Goals as goal

-- the text's symbol
symbol-is : (bytes : List ℕ) {kind symbol : ℕ} → kind ≡ kind_of_text bytes → symbol_of symbol ≡ of_text kind
    → (symbol ≡ 64 + kind) × (1 ≤ kind) × (kind ≤ 2)
symbol-is bytes {symbol = symbol} e says = let (is, some, few, _) = text_said symbol says in (is, some, few)

pub returns-then-node-ge-MOST_NODES : goal.returns-then-node-ge-MOST_NODES
returns-then-node-ge-MOST_NODES c =
    let ((deep, r), solid) = c.requires in stays _ (text_many r deep solid (omega arith))

pub overflow_add-at : goal.overflow_add-at
overflow_add-at c =
    let bytes = c.text_length-bytes.ensures ∙ ap (run text_byte) c.rest-rest.ensures in
    let r = c.requires.0.1 in
    omega (arith, bytes, run-within text_byte c.args.self.now.text.now c.args.self.now.scan.at r.within, r.short)

pub returns-then-ne : goal.returns-then-ne
returns-then-ne c =
    let ((deep, r), solid) = c.requires in
    let bytes = c.text_length-bytes.ensures ∙ ap (run text_byte) c.rest-rest.ensures in
    let next = c.look-next.ensures in
    stays _ (rw (c.stopped.ensures, next.at) (text_stuck r deep solid c.if-node-ge-MOST_NODES.false _ _ bytes next.class
    (seen_other _ _ (sym c.ne.ensures ∙ c.if-ne.true))))

pub slice_bounds-trimmed-end : goal.slice_bounds-trimmed-end
slice_bounds-trimmed-end c =
    sym (length-take-le _ c.rest-rest.result.now (omega (arith, c.text_length-bytes.ensures, run-most text_byte c.rest-rest.result.now)))

pub packed-requires : goal.packed-requires
packed-requires c =
    let ((deep, r), solid) = c.requires in
    let bytes = c.text_length-bytes.ensures ∙ ap (run text_byte) c.rest-rest.ensures in
    let next = c.look-next.ensures in
    let less = seen_same _ _ (sym c.ne.ensures ∙ c.if-ne.false) in
    let trims = rw c.rest-rest.ensures at c.trimmed-text.ensures in
    let short = text_short r deep solid c.if-node-ge-MOST_NODES.false _ _ bytes next.class less _ trims in
    let within = run-within text_byte c.args.self.now.text.now c.args.self.now.scan.at r.within in
    omega (arith, c.from.ensures, symbol-is _ c.kind_of.ensures c.of_kind-symbol.ensures, short, r.short, bytes, within)

pub returns : goal.returns
returns c =
    let ((deep, r), solid) = c.requires in
    let few = c.if-node-ge-MOST_NODES.false in
    let bytes = c.text_length-bytes.ensures ∙ ap (run text_byte) c.rest-rest.ensures in
    let next = c.look-next.ensures in
    let less = seen_same _ _ (sym c.ne.ensures ∙ c.if-ne.false) in
    let trims = rw c.rest-rest.ensures at c.trimmed-text.ensures in
    let word = rw (c.from.ensures ∙ (symbol-is _ c.kind_of.ensures c.of_kind-symbol.ensures).0) at c.packed.ensures in
    record {
      same = record { names = refl; text = refl; words = refl };
      is =
          rw next.at (
            text_later r deep solid few _ _ bytes next.class less,
            text_read r deep solid few _ _ bytes next.class less _ trims _ _ c.kind_of.ensures word,
          );
    }
