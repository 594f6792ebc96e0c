-- The classes of bytes in code, in the model's terms.
use Rattle.std.specs.Prelude.{ℕ, Option, Some, None, Bool, ◌&&◌, ◌||◌, not}
use Rattle.model.specs.Bytes.{is}
use Rattle.model.specs.Bytes as model
use Rattle.chars.specs.declared.Class.{Class}
use Rattle.chars.specs.declared.Class.TheVariants.{White, Letter, Digit, Hyphen, Less, Greater, Slash, Other, Forbidden}

abbrev pub meaning : Class → model.Class
meaning White = model.white
meaning Letter = model.letter
meaning Digit = model.digit
meaning Hyphen = model.hyphen
meaning Less = model.less
meaning Greater = model.greater
meaning Slash = model.slash
meaning Other = model.other
meaning Forbidden = model.forbidden

-- their numbers
abbrev pub number : Class → ℕ
number White = 0
number Letter = 1
number Digit = 2
number Hyphen = 3
number Less = 4
number Greater = 5
number Slash = 6
number Other = 7
number Forbidden = 8

-- the number of a class that is seen at an offset, 9 where the text ends
abbrev pub number_seen : Option Class → ℕ
number_seen (Some c) = number c
number_seen None = 9

-- whether a name, and a text, goes on with a byte of a class
unfoldable pub name_class : model.Class → Bool
name_class c = is c model.letter || (is c model.digit || is c model.hyphen)

unfoldable pub text_class : model.Class → Bool
text_class c = not (is c model.less) && (not (is c model.greater) && not (is c model.forbidden))
