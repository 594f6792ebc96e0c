-- The line of what is said: document 01, "The program formcheck … prints one line, fields parted by one space: verdict, state or place,
-- looks; or error, number, place".
use Rattle.std.specs.Prelude.{◌≢◌, List, ◌++◌, [] as []ᴸ, ◌∷◌ as ◌∷ᴸ◌, ℕ, zero, suc, ◌+◌, ◌-◌, ◌*◌, ◌/◌, ◌%◌, ◌≤◌}
use Prim.Native.String.{String, [], ◌∷◌}
use Prim.Native.Char.{code}
use Rattle.model.specs.Answers.{Said, count, accepted, refused, stuck, refusal}
use Rattle.model.specs.Calls.{formcheck}

-- the bytes of a quoted text, in ASCII
unfoldable pub bytes : String → List ℕ
bytes [] = []ᴸ
bytes (c ∷ s) = code c ∷ᴸ bytes s

-- The decimal digits of a number, the highest first, and none of 0: those of its quotient by ten, then its remainder's. Byte 48 is the
-- digit 0. Each quotient is smaller than its number, so n steps are enough for n.
unfoldable pub digits : (steps n : ℕ) → List ℕ
digits zero n = []ᴸ
digits (suc steps) zero = []ᴸ
digits (suc steps) (suc n) = digits steps (suc n / 10) ++ ((48 + suc n % 10) ∷ᴸ []ᴸ)

-- a number in decimal, without leading zeros
unfoldable pub decimal : ℕ → List ℕ
decimal zero = bytes "0"
decimal (suc n) = digits (suc n) (suc n)

-- a number as a field behind another, parted from it by one space
unfoldable pub field : ℕ → List ℕ
field n = bytes " " ++ decimal n

-- One line, which ends in byte 10. formcheck never says a count; the programs that run other calls do.
unfoldable pub line_of : Said → List ℕ
line_of (accepted state looks) = bytes "accepted" ++ field state ++ field looks ++ bytes "\n"
line_of (refused state looks) = bytes "refused" ++ field state ++ field looks ++ bytes "\n"
line_of (stuck node looks) = bytes "stuck" ++ field node ++ field looks ++ bytes "\n"
line_of (refusal number place) = bytes "error" ++ field number ++ field place ++ bytes "\n"
line_of (count n) = bytes "count" ++ field n ++ bytes "\n"

-- what formcheck prints of a name list, a sheet's file and a form
unfoldable pub formcheck_line : (list file s : List ℕ) → List ℕ
formcheck_line list file s = line_of (formcheck list file s)

-- ---- what digits say

-- what digits come to in base ten, after digits that come to a
unfoldable pub value : ℕ → List ℕ → ℕ
value a []ᴸ = a
value a (d ∷ᴸ l) = value (a * 10 + (d - 48)) l

-- each byte is a digit
unfoldable pub Digits : List ℕ → Type 0
Digits []ᴸ = Unit {0}
Digits (d ∷ᴸ l) = (48 ≤ d) × (d ≤ 57) × Digits l

-- a first digit is there, and it isn't 0
unfoldable pub Leads : List ℕ → Type 0
Leads []ᴸ = ⊥
Leads (d ∷ᴸ l) = d ≢ 48
