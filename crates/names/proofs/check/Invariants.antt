-- `names::check` meets its contract: the check of the lines that are left says what the check of the list says.
use mathlib.Core.Path.{◌≡◌}
use Rattle.model.specs.Names.{names_of}
use Rattle.tags.specs.Tables.{TableOf}
use Rattle.names.proofs.Checks.{checked-from}
use Rattle.names.proofs.check.Given as goal

abbrev pub invariant-loop-good : goal.invariant-loop-good
invariant-loop-good l = (names_of l.list ≡ checked-from l.list l.good) × TableOf l.list l.table l.good
