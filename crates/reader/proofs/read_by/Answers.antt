-- `reader::read_by` meets its contract.
use mathlib.Core.Path.{◌≡◌}
use native.Mathlib.Omega.{arith}
use lib.ListN.{length, take}
use lib.Seq.{length-take-le}
use Rattle.std.proofs.lemmas.Result.{err_from_is_err_and}
use Rattle.reader.proofs.Answers.{long_text, refused-form, short-buffer, filled}
use Rattle.reader.proofs.read_by.Goals as goal

pub returns-then-text-gt-MOST_BYTES : goal.returns-then-text-gt-MOST_BYTES
returns-then-text-gt-MOST_BYTES c =
    let both = long_text c.args.list.now c.args.text.now c.args.tree.now c.requires (omega arith) in
    record { answer = both.0; buffer = both.1 }

pub overflow_mul-nodes : goal.overflow_mul-nodes
overflow_mul-nodes c = omega (arith, c.in_ok-nodes.ensures.few)

pub overflow_mul-result : goal.overflow_mul-result
overflow_mul-result c = omega (arith, c.in_ok-nodes.ensures.few)

pub returns-then-tree-nodes : goal.returns-then-tree-nodes
returns-then-tree-nodes c =
    let w = c.in_ok-nodes.ensures in
    let both = short-buffer c.args.list.now c.args.text.now c.args.tree.now c.requires w (omega arith) in
    record { answer = both.0; buffer = both.1 }

pub unpack-requires : goal.unpack-requires
unpack-requires c =
    let w = c.in_ok-nodes.ensures in
    omega (arith, length-take-le c.in_ok-nodes.nodes c.scan_form.new.words (omega (arith, w.few, w.room)))

pub returns-in_err-nodes : goal.returns-in_err-nodes
returns-in_err-nodes c =
    let p = err_from_is_err_and c.from_residual.result c.from_residual.ensures.1 in
    let both = refused-form _ _ _ c.requires c.in_err-nodes.ensures in
    rw (p.1, p.2) (record { answer = both.0; buffer = both.1 })

pub returns : goal.returns
returns c =
    let w = c.in_ok-nodes.ensures in
    let n = c.in_ok-nodes.nodes in
    let count : length (take n c.scan_form.new.words) ≡ n = length-take-le _ _ (omega (arith, w.few, w.room)) in
    let both = filled _ _ _ c.requires w c.if-tree-nodes.false (rw count at c.unpack.ensures) in
    record { answer = both.0; buffer = both.1 }
