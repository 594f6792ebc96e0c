-- How an answer is handed to C: its kind is returned, and its kind and two values go to the front of a lent array, as many of the
-- three as it has room for. What stands past them keeps its contents.
use Rattle.std.specs.Prelude.{List, [], ◌∷◌, ◌++◌, ℕ, length, take, drop}
use Rattle.model.specs.Answers.{Said}
use Rattle.answers.specs.declared.Numbers.{Numbers}
use Rattle.answers.specs.Numbers.{kind_number, numbers_of}

unfoldable pub filled_by : List ℕ → (kind first second : ℕ) → List ℕ
filled_by lent kind first second = take (length lent) (kind ∷ first ∷ second ∷ []) ++ drop 3 lent

abbrev pub filled : List ℕ → Numbers → List ℕ
filled lent r = filled_by lent (kind_number r.kind) r.first r.second

unfoldable pub answer_after : List ℕ → Said → List ℕ
answer_after lent said = filled lent (numbers_of said)
