-- Refusals of inputs that are too large to compute on: 1, 6, 7 and 24 where their limits are passed.
use Rattle.std.specs.Prelude.{List, [], ◌∷◌, ◌++◌, ℕ, replicate}
use Rattle.model.specs.Answers.{refusal}
use Rattle.model.specs.Calls.{read_said, write_said}
use Rattle.model.specs.Line.{bytes}
use Rattle.model.specs.Examples.{Row, ◌says◌, times, ab, xs, around}

-- <a>, in it n empty elements, and one more start tag
unfoldable pub many_nodes : ℕ → List ℕ
many_nodes n = bytes "<a>" ++ (times n (bytes "<a/>") ++ bytes "<a")

-- ---- the table

unfoldable pub table : List Row
table =
    -- 1 in reading and in writing: before 2, and before 10
    read_said ab (replicate 65536 38) [] says refusal 1 65535
    ∷ write_said ab (xs 65536) [] [] says refusal 1 65535
    -- 6: depth 32, where the text ends, and depth 33, where 4 would be at the next byte
    ∷ read_said ab (times 32 (bytes "<a>")) [] says refusal 3 96
    ∷ read_said ab (times 32 (bytes "<a>") ++ bytes "<c>") [] says refusal 6 96
    -- 7: <a> and 4,095 elements <a/> are 4,096 nodes
    ∷ read_said ab (many_nodes 4095) [] says refusal 7 16383
    -- 24: a written form of 65,535 bytes, and of 65,536: before 22, and after 11
    ∷ write_said ab (xs 65528) (around 65528) [] says refusal 22 65535
    ∷ write_said ab (xs 65529) (around 65529) [] says refusal 24 65536
    ∷ write_said ab (xs 65529) (1 ∷ 2 ∷ 0 ∷ 1 ∷ 66 ∷ 1 ∷ 0 ∷ 65529 ∷ []) [] says refusal 11 0
    ∷ []
