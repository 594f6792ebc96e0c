-- `offsets::index` meets its contract: what is left to write, from line k on, completes the index.
use mathlib.Core.Path.{◌≡◌}
use lib.ListN.{length}
use lib.Seq.{sets}
use Rattle.offsets.specs.Lines.{line_starts}
use Rattle.offsets.proofs.LineLaws.{Begins}
use Rattle.offsets.proofs.IndexLaws.{starts_from}
use Rattle.offsets.proofs.index.Given as goal

abbrev pub invariant-loop-k : goal.invariant-loop-k
invariant-loop-k l =
    Begins l.list l.k l.at × (sets l.starts l.k (starts_from l.list l.k) ≡ sets l.initial.starts 0 (line_starts l.list)) ×
    (length l.starts ≡ length l.initial.starts)
