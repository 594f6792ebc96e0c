-- `joint_finals` meets its contract: a pair is final if both are.
use Rattle.join_sheets.proofs.SheetWords.{finals_paired}
use Rattle.join_sheets.proofs.joint_finals.Goals as goal

pub returns : goal.returns
returns c =
    finals_paired c.args.sheets.now c.set_at-s.ensures c.set_at-t.ensures c.pair_set.ensures
