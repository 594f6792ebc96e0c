-- What is said, as three numbers: a kind and two values.
use Rattle.std.specs.Prelude.{ℕ}
use Rattle.model.specs.Answers.{Said, count, accepted, refused, stuck, refusal}
use Rattle.answers.specs.declared.Kind.{Kind}
use Rattle.answers.specs.declared.Kind.TheVariants.{Count, Accepted, Refused, Stuck, Error}
use Rattle.answers.specs.declared.Numbers.{Numbers}

-- the kinds: 0 a count, 1 accepted, 2 refused, 3 stuck, 4 an error
abbrev pub kind_number : Kind → ℕ
kind_number Count = 0
kind_number Accepted = 1
kind_number Refused = 2
kind_number Stuck = 3
kind_number Error = 4

-- of a count the number and 0, of a verdict the state or node and the looks, of an error the refusal's number and place
abbrev pub numbers_of : Said → Numbers
numbers_of (count n) = record { kind = Count; first = n; second = 0 }
numbers_of (accepted q m) = record { kind = Accepted; first = q; second = m }
numbers_of (refused q m) = record { kind = Refused; first = q; second = m }
numbers_of (stuck i m) = record { kind = Stuck; first = i; second = m }
numbers_of (refusal number place) = record { kind = Error; first = number; second = place }

abbrev pub kind_of : Said → ℕ
kind_of s = kind_number (numbers_of s).kind
