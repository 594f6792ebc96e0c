-- Bytes and names: document 01, "Text and names".
use Rattle.std.specs.Prelude.{Bool, true, false, cond, ◌&&◌, ◌||◌, List, [], ◌∷◌, ℕ, eqb, leb}
use Rattle.model.specs.Lists.{every}
use Rattle.model.specs.declared.TextKind.{TextKind}
use Rattle.model.specs.declared.TextKind.TheVariants.{Integer, Other}

-- each byte value has one class
pub data Class : Type 0 where
  white letter digit hyphen less greater slash other forbidden : Class

-- their numbers, in a table
unfoldable pub class_number : Class → ℕ
class_number white = 0
class_number letter = 1
class_number digit = 2
class_number hyphen = 3
class_number less = 4
class_number greater = 5
class_number slash = 6
class_number other = 7
class_number forbidden = 8

unfoldable pub is : Class → Class → Bool
is c k = eqb (class_number c) (class_number k)

-- white (9, 10, 13, 32), letter (A to Z, a to z), digit, hyphen, < , > , / , other (the rest of 33 to 126 but &), forbidden
abbrev pub within : ℕ → ℕ → ℕ → Bool
within low high b = leb low b && leb b high

unfoldable pub class_of : ℕ → Class
class_of b =
    cond (eqb b 9 || (eqb b 10 || (eqb b 13 || eqb b 32))) white
    (cond (within 65 90 b || within 97 122 b) letter
    (cond (within 48 57 b) digit
    (cond (eqb b 45) hyphen
    (cond (eqb b 60) less
    (cond (eqb b 62) greater
    (cond (eqb b 47) slash
    (cond (eqb b 38) forbidden
    (cond (within 33 126 b) other forbidden))))))))

-- the bytes <, >, / and the one that ends a line
abbrev pub less_byte : ℕ
less_byte = 60

abbrev pub greater_byte : ℕ
greater_byte = 62

abbrev pub slash_byte : ℕ
slash_byte = 47

abbrev pub line_feed : ℕ
line_feed = 10

-- a name is a letter, then letters, digits, hyphens
unfoldable pub letter_byte : ℕ → Bool
letter_byte b = is (class_of b) letter

unfoldable pub name_byte : ℕ → Bool
name_byte b = is (class_of b) letter || (is (class_of b) digit || is (class_of b) hyphen)

unfoldable pub is_name : List ℕ → Bool
is_name [] = false
is_name (b ∷ s) = letter_byte b && every name_byte s

-- two lists of bytes are the same
unfoldable pub same_bytes : List ℕ → List ℕ → Bool
same_bytes [] [] = true
same_bytes [] (b ∷ t) = false
same_bytes (a ∷ s) [] = false
same_bytes (a ∷ s) (b ∷ t) = eqb a b && same_bytes s t

-- digits only are an integer, kind 1; any other text is of kind 2
unfoldable pub digit_byte : ℕ → Bool
digit_byte b = is (class_of b) digit

unfoldable pub kind_of_text : List ℕ → ℕ
kind_of_text s = cond (every digit_byte s) 1 2

abbrev pub text_kind : TextKind → ℕ
text_kind Integer = 1
text_kind Other = 2
