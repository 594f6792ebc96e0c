-- The line of an answer's numbers is that of the answer.
use mathlib.Core.Path.{◌≡◌, refl}
use mathlib.Core.Bool.{true, false, not}
use mathlib.Core.List.{List, ◌++◌}
use Prim.Native.Nat.{ℕ}
use denote.Enum.Bare.{sameb}
use Rattle.model.specs.Answers.{Said, count, accepted, refused, stuck, refusal}
use Rattle.model.specs.Line.{field, line_of}
use Rattle.answers.specs.declared.Kind.{Kind}
use Rattle.answers.specs.declared.Kind.TheVariants.{Count, Accepted, Refused, Stuck, Error}
use Rattle.answers.specs.contracts.Kind.{the_type}
use Rattle.answers.specs.Numbers.{numbers_of}
use Rattle.line.specs.Words.{word_of, with_second, numbers_line}

pub line-said : (s : Said) → numbers_line (numbers_of s) ≡ line_of s
unfolding numbers_line word_of with_second line_of
line-said (count n) = refl
line-said (accepted q m) = refl
line-said (refused q m) = refl
line-said (stuck i m) = refl
line-said (refusal n i) = refl

-- a second field behind all but a count
pub second-there : (k : Kind) (n : ℕ) (l : List ℕ) → true ≡ not (sameb the_type k Count) → with_second k n l ≡ l ++ field n
unfolding with_second
second-there Count n l h = cc
second-there Accepted n l h = refl
second-there Refused n l h = refl
second-there Stuck n l h = refl
second-there Error n l h = refl

pub no_second : (k : Kind) (n : ℕ) (l : List ℕ) → false ≡ not (sameb the_type k Count) → with_second k n l ≡ l
unfolding with_second
no_second Count n l h = refl
no_second Accepted n l h = cc
no_second Refused n l h = cc
no_second Stuck n l h = cc
no_second Error n l h = cc
