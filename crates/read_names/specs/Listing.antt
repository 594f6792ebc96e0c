-- A name list that a form is read by.
use Rattle.std.specs.Prelude.{◌≡◌, List, ℕ}
use Rattle.model.specs.Answers.{passes}
use Rattle.model.specs.Names.{names_of}
use Rattle.offsets.specs.Lines.{line_count}
use Rattle.tags.specs.declared.Table.{Table}
use Rattle.tags.specs.Tables.{TableOf}

-- the list passes its check, and the table has all of its tags
pub record Listing (list : List ℕ) (table : Table) : Type 0 where
  pub checked : names_of list ≡ passes (line_count list)
  pub made : TableOf list table (line_count list)
