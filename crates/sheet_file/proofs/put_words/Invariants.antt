-- `sheet_file::put_words` meets its contract.
use mathlib.Core.Path.{◌≡◌}
use mathlib.Core.List.{◌++◌}
use lib.ListN.{take, drop}
use Rattle.model.specs.Sheet.{file_words}
use Rattle.sheet_file.proofs.put_words.Given as goal

abbrev pub invariant-loop-i : goal.invariant-loop-i
invariant-loop-i l = l.words ≡ take l.i (file_words l.bytes) ++ drop l.i l.initial.words
