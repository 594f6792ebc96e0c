-- `sheet_chains::put_entry` meets its contract.
use native.Mathlib.Omega.{arith}
use lib.ListN.{length-set}
use Rattle.sheet_chains.proofs.ChainLaws.{entry_put}
use Rattle.sheet_chains.proofs.put_entry.Goals as goal

pub overflow_mul-index : goal.overflow_mul-index
overflow_mul-index c = omega (arith, c.requires.heads _ c.key_of-key.ensures.few)

pub overflow_add-index : goal.overflow_add-index
overflow_add-index c = omega (arith, c.requires.heads _ c.key_of-key.ensures.few)

pub bounds-index-key-2 : goal.bounds-index-key-2
bounds-index-key-2 c = simp length-set (omega arith)

pub shape_of-index : goal.shape_of-index
shape_of-index c = simp length-set

pub returns : goal.returns
returns c = entry_put _ _ _ _ (rw (c.at.ensures, c.field.ensures) at c.key_of-key.ensures.key)
