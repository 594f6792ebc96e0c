-- How many bytes formcheck reads of a name list, a sheet's file and a form.
use Rattle.std.specs.Prelude.{ℕ}

abbrev pub names_bytes : ℕ
names_bytes = 4096

abbrev pub sheet_bytes : ℕ
sheet_bytes = 65540

abbrev pub form_bytes : ℕ
form_bytes = 65536
