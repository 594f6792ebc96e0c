-- `put_head` meets its contract.
use native.Mathlib.Omega.{arith}
use Rattle.page.proofs.PageLaws.{then, as_words}
use Rattle.join_sheets.proofs.SheetWords.{product_small, head_words_in}
use Rattle.join_sheets.proofs.put_head.Goals as goal

pub overflow_mul-states : goal.overflow_mul-states
overflow_mul-states c = omega (arith, product_small c.args.sheets.now)

pub returns : goal.returns
returns c =
    as_words (head_words_in c.args.sheets.now c.joint_finals.ensures c.at.ensures)
    (then c.copy.ensures (then c.put_set.ensures c.copy-2.ensures))
