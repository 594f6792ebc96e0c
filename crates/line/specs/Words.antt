-- The line of an answer's numbers: the word for its kind, and the numbers as fields.
use Rattle.std.specs.Prelude.{List, ◌++◌, ℕ}
use Rattle.model.specs.Line.{bytes, field}
use Rattle.answers.specs.declared.Kind.{Kind}
use Rattle.answers.specs.declared.Kind.TheVariants.{Count, Accepted, Refused, Stuck, Error}
use Rattle.answers.specs.declared.Numbers.{Numbers}

unfoldable pub word_of : Kind → List ℕ
word_of Count = bytes "count"
word_of Accepted = bytes "accepted"
word_of Refused = bytes "refused"
word_of Stuck = bytes "stuck"
word_of Error = bytes "error"

-- the second number behind the first, but of a count
unfoldable pub with_second : Kind → (second : ℕ) → List ℕ → List ℕ
with_second Count n l = l
with_second Accepted n l = l ++ field n
with_second Refused n l = l ++ field n
with_second Stuck n l = l ++ field n
with_second Error n l = l ++ field n

unfoldable pub numbers_line : Numbers → List ℕ
numbers_line r = with_second r.kind r.second (word_of r.kind ++ field r.first) ++ bytes "\n"
