-- The line of whole files. A program reads as much of each as its array holds; `Buffers::new` promises how much that is.
use mathlib.Core.Path.{◌≡◌, ap}
use mathlib.Core.List.{List}
use Prim.Native.Nat.{ℕ}
use native.Mathlib.Omega.{arith}
use lib.ListN.{take}
use Rattle.model.specs.Line.{line_of, formcheck_line}
use Rattle.model.proofs.Cut.{formcheck_cut}
use Rattle.verdict_sizes.specs.Sizes.{names_bytes, sheet_bytes, form_bytes}

-- The fronts that are read have the line of the whole files, however long these are.
pub whole : (list file s : List ℕ) → formcheck_line (take names_bytes list) (take sheet_bytes file)
    (take form_bytes s) ≡ formcheck_line list file s
unfolding formcheck_line
whole list file s = ap line_of (formcheck_cut list file s {n = names_bytes} {q = 16385} {k = form_bytes} (omega arith) (omega arith)
    (omega arith))
