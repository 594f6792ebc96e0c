-- The checks that come before 11.
use Rattle.std.specs.Prelude.{◌≡◌, List, ℕ, ◌≤◌, length}
use Rattle.model.specs.Answers.{passes}
use Rattle.model.specs.Names.{names_of}
use Rattle.model.specs.Tree.{Element, tree_of}

-- they have passed: the number of tags, and the tree's root
pub record Passed (list source tree : List ℕ) : Type 0 where
  pub tags : ℕ
  pub names : names_of list ≡ passes tags
  pub short : length source ≤ 65535
  pub root : Element
  pub shape : tree_of tags tree ≡ passes root
