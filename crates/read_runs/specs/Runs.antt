-- What stands at the front of some bytes: how many pass a test, and the class of the first; and bytes trimmed at their end.
use Rattle.std.specs.Prelude.{◌≡◌, Bool, cond, List, [], ◌∷◌, ℕ, suc}
use Rattle.model.specs.Bytes.{class_number, class_of, within}
use Rattle.model.specs.Text.{trimmed}
use Rattle.chars.specs.Classes.{meaning}
use Rattle.chars.specs.declared.Class.{Class}

-- how many bytes, from the first on, pass a test
unfoldable pub run : (ℕ → Bool) → List ℕ → ℕ
run test [] = 0
run test (b ∷ s) = cond (test b) (suc (run test s)) 0

-- whether a byte's class has a number between two
unfoldable pub class_within : (low high b : ℕ) → Bool
class_within low high b = within low high (class_number (class_of b))

-- the number of the first byte's class, 9 where there is no byte
unfoldable pub first_class : List ℕ → ℕ
first_class [] = 9
first_class (b ∷ s) = class_number (class_of b)

-- what a closure gives for the class of a byte is a test of the byte
abbrev pub Tests : (Class → Bool → Type 0) → (ℕ → Bool) → Type 0
Tests gives test = (c : Class) (b : ℕ) (r : Bool) → meaning c ≡ class_of b → gives c r → r ≡ test b

-- bytes without the white at their end
unfoldable pub trim : List ℕ → List ℕ
trim [] = []
trim (b ∷ s) = trimmed b (trim s)
