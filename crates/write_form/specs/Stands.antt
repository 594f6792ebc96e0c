-- The document that stands in the words of a tree.
use Rattle.std.specs.Prelude.{◌≡◌, Bool, true, List, ℕ, ◌*◌, ◌≤◌, length}
use Rattle.model.specs.Answers.{passes}
use Rattle.model.specs.Lists.{every}
use Rattle.model.specs.Names.{names_of}
use Rattle.model.specs.Tree.{Document, nodesD, children}
use Rattle.model.specs.Written.{good_words}

-- Document d stands from node i up to node `end`, where `levels` elements may lie one in another, over a checked name list; 11 refuses
-- none of its nodes.
pub record Stands (list text tree : List ℕ) (levels i end : ℕ) (d : Document) : Type 0 where
  pub tags : ℕ
  pub after_text : Bool
  pub names : names_of list ≡ passes tags
  pub within : 4 * end ≤ length tree
  pub read : children tree tags (length tree) levels i end after_text ≡ passes d
  pub good : every (good_words text) (nodesD d) ≡ true

-- some document does
pub record Standing (list text tree : List ℕ) (levels i end : ℕ) : Type 0 where
  pub document : Document
  pub stands : Stands list text tree levels i end document
