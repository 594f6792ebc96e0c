-- `Class::from` meets its contract: antt computes the class of each of the 256 byte values and compares it with the table's entry.
use borrow.Author.Rules.{rules}
use Rattle.chars.proofs.ClassLaws.{class_in_table}
use Rattle.chars.proofs.ClassFromU8.from.Goals as goal

pub returns : goal.returns
returns c = class_in_table _ (search rules)
