-- `read_runs::text_length` meets its contract: the first bytes, so many as are known, are a text's, and the blocks that are left follow.
use mathlib.Core.Path.{sym, ap, ◌∙◌}
use native.Mathlib.Omega.{arith}
use lib.ListN.{drop, length-drop}
use Rattle.model.specs.Written.{text_byte}
use Rattle.read_runs.proofs.RunLaws.{run_cut, run_past, run-all, run-most, rest_is, block_there, block_is, block_left}
use Rattle.read_runs.proofs.text_length.Goals as goal

pub returns-then-first-lt-BLOCK : goal.returns-then-first-lt-BLOCK
returns-then-first-lt-BLOCK c =
    let first = c.text_bytes-first.ensures in
    first ∙ sym (run_cut text_byte 16 c.args.bytes.now (omega (arith, first)) (omega arith))

pub loop-block-init : goal.loop-block-init
loop-block-init c =
    let same = c.into_iter-block-iterator.ensures.into_iter_gives in
    let chunks = c.chunks_exact-block-items.ensures in (
      omega arith,
      run_past text_byte _ _ (omega (arith, c.text_bytes-first.ensures)),
      ap (λ it. it.rest.now) same ∙ chunks.rest ∙ rest_is c.args.bytes.now 16,
      ap (λ it. it.size) same ∙ chunks.size,
    )

-- a block is cut from the bytes that are left
pub overflow_add-known : goal.overflow_add-known
overflow_add-known c =
    let (within, _, left, sixteen) = c.loop-block.invariant in
    let cut = c.in-Some.ensures.steps.1 in
    omega (arith, block_there _ _ _ _ _ within (sym left ∙ cut.0) (cut.1 ∙ sixteen))

pub loop-block-preserved : goal.loop-block-preserved
loop-block-preserved c =
    let (within, known, left, sixteen) = c.loop-block.invariant in
    let (same, cut, _) = c.in-Some.ensures.steps in
    let block = sym left ∙ cut.0 in
    let size = cut.1 ∙ sixteen in
    let there = block_there _ _ _ _ _ within block size in (
      there,
      run-all text_byte _ _ known 16 there
          (rw (block_is _ _ _ _ _ within block size) (sym c.text_block.ensures ∙ c.if-not-text_block.false)),
      block_left _ _ _ _ _ within block size,
      same ∙ sixteen,
    )

pub slice_bounds-text_bytes-count : goal.slice_bounds-text_bytes-count
slice_bounds-text_bytes-count c = c.loop-block.invariant.0

pub slice_bounds-text_bytes-start : goal.slice_bounds-text_bytes-start
slice_bounds-text_bytes-start c = c.loop-block.invariant.0

pub overflow_add-result : goal.overflow_add-result
overflow_add-result c =
    let left = drop c.loop-block.known c.args.bytes.now in
    let rest = rw rest_is at c.text_bytes-2.ensures in
    omega (arith, rest, run-most text_byte left, length-drop c.loop-block.known c.args.bytes.now, c.loop-block.invariant.0)

pub returns : goal.returns
returns c = rw (c.text_bytes-2.ensures, rest_is) c.loop-block.invariant.1
