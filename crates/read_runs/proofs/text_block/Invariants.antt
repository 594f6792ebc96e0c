-- `read_runs::text_block` meets its contract: so far all bytes are a text's where the flag says so.
use mathlib.Core.Path.{◌≡◌}
use lib.ListN.{take}
use Rattle.model.specs.Lists.{every}
use Rattle.model.specs.Written.{text_byte}
use Rattle.read_runs.proofs.text_block.Given as goal

abbrev pub invariant-loop-byte : goal.invariant-loop-byte
invariant-loop-byte l = l.all ≡ every text_byte (take l.byte-index l.block)
