-- A scan at another offset; and the refusal of a byte, or the end, that a form can't go on with.
use Rattle.std.specs.Prelude.{cond, ℕ, eqb}
use Rattle.model.specs.declared.Refusal.{Refusal}
use Rattle.model.specs.declared.Refusal.TheVariants.{ForbiddenByte, Syntax}
use Rattle.read_scan.specs.declared.Scan.{Scan}

-- the scan at another offset
abbrev pub at_offset : Scan → ℕ → Scan
at_offset s at = record { at = at; top = s.top; depth = s.depth; nodes = s.nodes }

-- the scan of a text up to an offset, with no node
abbrev pub scan_at : ℕ → Scan
scan_at at = record { at = at; top = 0; depth = 0; nodes = 0 }

-- the number of the refusal for a class's number, or the end's, and that refusal
abbrev pub stop_number : ℕ → ℕ
stop_number class = cond (eqb class 8) 2 3

abbrev pub stop_by : (class at : ℕ) → Refusal
stop_by class at = cond (eqb class 8) (ForbiddenByte at) (Syntax at)
