-- `sheet_file::put_words` meets its contract.
use mathlib.Core.Path.{◌≡◌, ◌∙◌}
use native.Mathlib.Omega.{arith}
use Prim.Native.Nat.{◌/◌}
use lib.ListN.{length}
use Rattle.sheet_file.proofs.FileWords.{front_more, chunk_word}
use Rattle.sheet_file.proofs.put_words.Goals as goal

pub loop-i-preserved : goal.loop-i-preserved
loop-i-preserved c =
    let word = rw c.as_chunks.ensures.front at c.from_le_bytes.ensures in
    front_more _ _ c.loop-i.invariant (omega (arith, c.as_chunks.ensures.front_len)) (omega arith)
    (word ∙ chunk_word (length c.args.bytes.now / 4) _ _ (omega arith) (omega (arith, c.as_chunks.ensures.front_len)))

pub returns-clause-words : goal.returns-clause-words
returns-clause-words c = let e : c.loop-i.i ≡ c.min-n.result = omega arith in rw e at c.loop-i.invariant
