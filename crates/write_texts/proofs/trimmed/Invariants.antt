-- `write_texts::trimmed` meets its contract: the flag and the test of what is left give the test of all.
use mathlib.Core.Path.{◌≡◌}
use mathlib.Core.Bool.{◌&&◌}
use lib.ListN.{drop}
use Rattle.model.specs.Lists.{every}
use Rattle.model.specs.Written.{text_byte}
use Rattle.write_texts.proofs.trimmed.Given as goal

abbrev pub invariant-loop-byte : goal.invariant-loop-byte
invariant-loop-byte l = every text_byte l.s ≡ (l.good && every text_byte (drop l.byte-index l.s))
