-- `is_root` meets its contract.
use Rattle.tree_look.proofs.TreeWords.is_root.Goals as goal

pub returns : goal.returns
returns c = rw c.is_tag.ensures
