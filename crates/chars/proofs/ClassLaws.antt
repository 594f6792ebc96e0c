-- The table of classes gives each byte value its class.
use mathlib.Core.Path.{◌≡◌, refl, sym, ap, ◌∙◌}
use mathlib.Core.Bool.{Bool, true, false, cond, not, and_assoc, ◌&&◌, ◌||◌}
use mathlib.Core.List.{List, [], ◌∷◌}
use mathlib.Core.Logic.{◌≢◌}
use Prim.Native.Nat.{ℕ, ◌<◌}
use Rattle.std.proofs.Common.{slice_index_or}
use denote.Enum.Bare.{sameb}
use denote.Enum.Declared.{tag_of}
use lib.Dec.{eqb, leb}
use Rattle.std.proofs.lemmas.Bool.{eqb-true}
use Rattle.model.specs.Bytes.{class_number, class_of, is, letter_byte, name_byte}
use Rattle.model.specs.Written.{text_byte}
use Rattle.model.specs.Bytes as model
use Rattle.model.specs.Lists.{every, from}
use Rattle.std.specs.Prelude.{Option, Some, None}
use Rattle.std.specs.Option.{option_eq}
use Rattle.std.specs.List.{list_all}
use Rattle.model.proofs.Tests.{same, eqb_no, yes_not}
use Rattle.model.proofs.ListLaws.{every-∈, ∈-numbers}
use Rattle.chars.specs.Classes.{meaning, number, number_seen, name_class, text_class}
use Rattle.chars.specs.declared.Class.{Class}
use Rattle.chars.specs.declared.Class.TheVariants.{White, Letter, Digit, Hyphen, Less, Greater, Slash, Other, Forbidden}
use Rattle.chars.specs.contracts.Class.{the_type}
use Rattle.chars.specs.declared.TheConstants.{CLASSES}

-- the class with a number
of_number : ℕ → model.Class
of_number n =
    cond (eqb n 0) model.white
    (cond (eqb n 1) model.letter
    (cond (eqb n 2) model.digit
    (cond (eqb n 3) model.hyphen
    (cond (eqb n 4) model.less
    (cond (eqb n 5) model.greater
    (cond (eqb n 6) model.slash
    (cond (eqb n 7) model.other model.forbidden)))))))

own_number : (c : model.Class) → of_number (class_number c) ≡ c
unfolding of_number class_number
own_number model.white = refl
own_number model.letter = refl
own_number model.digit = refl
own_number model.hyphen = refl
own_number model.less = refl
own_number model.greater = refl
own_number model.slash = refl
own_number model.other = refl
own_number model.forbidden = refl

-- two classes are the same where their numbers are
pub number_same : (c k : model.Class) → class_number c ≡ class_number k → c ≡ k
number_same c k e = sym (own_number c) ∙ ap of_number e ∙ own_number k

pub class_in_table : (b : ℕ) → b < 256 → meaning (slice_index_or CLASSES b White) ≡ class_of b
unfolding every from class_of class_number
class_in_table b h = number_same _ _ (eqb-true _ _
    (every-∈ (λ b. eqb (class_number (meaning (slice_index_or CLASSES b White))) (class_number (class_of b))) refl b (∈-numbers 256 h)))

-- a test of every element, as the library has it
pub every_all : {A : Type 0} (f : A → Bool) (l : List A) → every f l ≡ list_all f l
unfolding every
every_all f [] = refl
every_all f (x ∷ l) = rw (every_all f l)

-- ---- tests of classes

or_assoc : (a b c : Bool) → ((a || b) || c) ≡ (a || (b || c))
or_assoc true b c = refl
or_assoc false b c = refl

pub name_by_class : (c : Class) (b : ℕ) → meaning c ≡ class_of b → name_class (meaning c) ≡ name_byte b
unfolding name_class name_byte
name_by_class c b e = rw e

pub text_by_class : (c : Class) (b : ℕ) → meaning c ≡ class_of b → text_class (meaning c) ≡ text_byte b
unfolding text_class text_byte
text_by_class c b e = rw e

pub number_is : (c : Class) → number c ≡ class_number (meaning c)
unfolding class_number
number_is White = refl
number_is Letter = refl
number_is Digit = refl
number_is Hyphen = refl
number_is Less = refl
number_is Greater = refl
number_is Slash = refl
number_is Other = refl
number_is Forbidden = refl

tag_number : (c : Class) → tag_of the_type c ≡ number c
tag_number White = refl
tag_number Letter = refl
tag_number Digit = refl
tag_number Hyphen = refl
tag_number Less = refl
tag_number Greater = refl
tag_number Slash = refl
tag_number Other = refl
tag_number Forbidden = refl

-- two classes are equal where their numbers are
pub same_number : (c k : Class) → sameb the_type c k ≡ eqb (number c) (number k)
same_number c k = rw (tag_number c, tag_number k)

same_class : (c k : Class) → sameb the_type c k ≡ is (meaning c) (meaning k)
unfolding is
same_class c k = same_number c k ∙ rw (number_is c, number_is k)

-- the tests of a name and of a text, by a class's number
pub name_number : (c : Class) → name_class (meaning c) ≡ (leb 1 (number c) && leb (number c) 3)
unfolding name_class is class_number
name_number White = refl
name_number Letter = refl
name_number Digit = refl
name_number Hyphen = refl
name_number Less = refl
name_number Greater = refl
name_number Slash = refl
name_number Other = refl
name_number Forbidden = refl

text_number : (c : Class) → number c ≢ 4 → text_class (meaning c) ≡ not (eqb (number c) 5 || leb 8 (number c))
unfolding text_class is class_number
text_number White n = refl
text_number Letter n = refl
text_number Digit n = refl
text_number Hyphen n = refl
text_number Less n = absurd (n refl)
text_number Greater n = refl
text_number Slash n = refl
text_number Other n = refl
text_number Forbidden n = refl

pub not_no : (b : Bool) → not b ≡ false → b ≡ true
not_no true e = refl
not_no false e = sym e

pub letter_by_class : (c : Class) (b : ℕ) → meaning c ≡ class_of b → sameb the_type c Letter ≡ letter_byte b
unfolding letter_byte
letter_by_class c b e = same_class c Letter ∙ rw e

pub in_name_is : (c : Class) → ((sameb the_type c Letter || sameb the_type c Digit) || sameb the_type c Hyphen) ≡ name_class (meaning c)
unfolding name_class
in_name_is c = rw (same_class c Letter, same_class c Digit, same_class c Hyphen, or_assoc)

pub in_text_is : (c : Class)
    → ((not (sameb the_type c Less) && not (sameb the_type c Greater)) && not (sameb the_type c Forbidden)) ≡ text_class (meaning c)
unfolding text_class
in_text_is c = rw (same_class c Less, same_class c Greater, same_class c Forbidden, and_assoc)

-- a class that is seen, or none, is compared by its number
no_end : (c : Class) → false ≡ eqb 9 (number c)
no_end White = refl
no_end Letter = refl
no_end Digit = refl
no_end Hyphen = refl
no_end Less = refl
no_end Greater = refl
no_end Slash = refl
no_end Other = refl
no_end Forbidden = refl

pub seen_eq : (k : Option Class) (c : Class) → option_eq (sameb the_type) k (Some c) ≡ eqb (number_seen k) (number c)
seen_eq None c = no_end c
seen_eq (Some x) c = same_number x c

pub seen_other : (k : Option Class) (c : Class) → not (option_eq (sameb the_type) k (Some c)) ≡ true
    → number_seen k ≢ number c
seen_other k c e = eqb_no (sym (seen_eq k c) ∙ yes_not _ e)

pub seen_same : (k : Option Class) (c : Class) → not (option_eq (sameb the_type) k (Some c)) ≡ false
    → number_seen k ≡ number c
seen_same k c e = same _ _ (sym (seen_eq k c) ∙ not_no _ e)

pub seen_is : (k : Option Class) (c : Class) → option_eq (sameb the_type) k (Some c) ≡ true → number_seen k ≡ number c
seen_is k c e = same _ _ (sym (seen_eq k c) ∙ e)

pub seen_isnt : (k : Option Class) (c : Class) → option_eq (sameb the_type) k (Some c) ≡ false → number_seen k ≢ number c
seen_isnt k c e = eqb_no (sym (seen_eq k c) ∙ e)

-- where no < stands, a class of no text is that of > or over 7, as the end is
module _ {k : Option Class} {c : Class} (is_c : k ≡ Some c) (no_less : number_seen k ≢ 4) where
  by_number : text_class (meaning c) ≡ not (eqb (number_seen k) 5 || leb 8 (number_seen k))
  by_number = rw is_c (text_number c (rw is_c at no_less))

  pub no_text : text_class (meaning c) ≡ false → (eqb (number_seen k) 5 || leb 8 (number_seen k)) ≡ true
  no_text e = not_no _ (sym by_number ∙ e)

  pub yes_text : text_class (meaning c) ≡ true → (eqb (number_seen k) 5 || leb 8 (number_seen k)) ≡ false
  yes_text e = yes_not _ (sym by_number ∙ e)

pub end_no_text : {k : Option Class} → k ≡ None → (eqb (number_seen k) 5 || leb 8 (number_seen k)) ≡ true
end_no_text e = rw e
