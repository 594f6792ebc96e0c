-- Each refusal with its neighbours, and two refusals at once, for the order within a call.
use mathlib.Core.List.{List, [], ◌∷◌, ◌++◌, flat_map}
use Rattle.std.specs.Prelude.{ℕ, ◌+◌, ◌-◌, ◌/◌, ◌%◌, replicate}
use Rattle.model.specs.Lists.{numbers}
use Rattle.model.specs.Answers.{count, stuck, refusal}
use Rattle.model.specs.Tree.{ε}
use Rattle.model.specs.Text.{State, blank, number_at}
use Rattle.model.specs.Calls.{names_said, read_said, read_tree, tree_said, write_said, write_out, sheet_said, from_file_said}
use Rattle.model.specs.Calls.{from_file_sheet, judge_said, judge_states, swap_said, swap_out, join_said, join_out, formcheck}
use Rattle.model.specs.Line.{bytes}
use Rattle.model.specs.Examples.{Row, ◌says◌, ◌leaves◌, ◌gives◌, room, times, file, ab, xs, around}

-- ---- inputs

-- n names of two letters: aa, ab, …
unfoldable pub two_letters : ℕ → List ℕ
two_letters n = flat_map (λ i. (97 + i / 26) ∷ (97 + i % 26) ∷ 10 ∷ []) (numbers n)

-- a state in content, in which some elements are open and some nodes were read
unfoldable pub inside : (depth nodes : ℕ) → State
inside depth nodes = record { place = blank; content = ε; opened = replicate depth (record { name = 1; earlier = ε }); nodes = nodes }

-- the tree of one element; of n elements one inside another
unfoldable pub lone : List ℕ
lone = 1 ∷ 1 ∷ 0 ∷ 0 ∷ []

unfoldable pub nested : ℕ → List ℕ
nested n = flat_map (λ i. 1 ∷ (n - i) ∷ 0 ∷ 0 ∷ []) (numbers n)

-- a sheet of some states, the first of them final, and two tags, with n times the same rule; of one state without a rule, and with one
unfoldable pub with_rules : (states n : ℕ) (rule : List ℕ) → List ℕ
with_rules states n rule = (1 ∷ states ∷ 1 ∷ 0 ∷ 2 ∷ n ∷ []) ++ times n rule

unfoldable pub no_rule : List ℕ
no_rule = with_rules 1 0 []

unfoldable pub one_rule : List ℕ → List ℕ
one_rule rule = with_rules 1 1 rule

-- an order part with some positions and n loops at the first; a count part of n steps, each true
unfoldable pub loops : (positions n : ℕ) → List ℕ
loops positions n = (positions ∷ 1 ∷ 0 ∷ n ∷ []) ++ replicate n 0

unfoldable pub true_steps : ℕ → List ℕ
true_steps n = n ∷ times n (1 ∷ 0 ∷ 0 ∷ 0 ∷ [])

-- rules for content: every one; by an order part; by a count part; by both
unfoldable pub every_content : List ℕ
every_content = 32 ∷ 0 ∷ []

unfoldable pub by_order : (positions arcs : ℕ) → List ℕ
by_order positions arcs = 40 ∷ (loops positions arcs ++ (0 ∷ []))

unfoldable pub by_count : (steps : ℕ) → List ℕ
by_count steps = 48 ∷ (true_steps steps ++ (0 ∷ []))

unfoldable pub by_both : (positions arcs steps : ℕ) → List ℕ
by_both positions arcs steps = 56 ∷ (loops positions arcs ++ (true_steps steps ++ (0 ∷ [])))

-- a sheet of two states over some tags, by which an empty a reaches both
unfoldable pub doubles : (tags : ℕ) → List ℕ
doubles tags = (1 ∷ 2 ∷ 1 ∷ 0 ∷ tags ∷ 3 ∷ []) ++ every_content ++ (38 ∷ 1 ∷ 0 ∷ 0 ∷ []) ++ (38 ∷ 1 ∷ 0 ∷ 1 ∷ [])

-- ---- the table

unfoldable pub table : List Row
table =
    -- 8: a name list; empty; its last line without byte 10; an empty line; a name again
    names_said ab says count 2
    ∷ names_said [] says refusal 8 0
    ∷ names_said (bytes "a\nb") says refusal 8 2
    ∷ names_said (bytes "a\n\n") says refusal 8 2
    ∷ names_said (bytes "a\nb-1\na\n") says refusal 8 6
    -- a name of 24 bytes, and of 25; one that begins with a digit; 64 names, and 65
    ∷ names_said (bytes "abcdefghijklmnopqrstuvwx\n") says count 1
    ∷ names_said (bytes "abcdefghijklmnopqrstuvwxy\n") says refusal 8 0
    ∷ names_said (bytes "a\n1b\n") says refusal 8 2
    ∷ names_said (two_letters 64) says count 64
    ∷ names_said (two_letters 65) says refusal 8 192
    -- 2: a forbidden byte in a text; in a tag, where the form can't go on with it: 2 before 3
    ∷ read_said ab (bytes "<a>&</a>") [] says refusal 2 3
    ∷ read_said ab (bytes "<a&") [] says refusal 2 2
    -- 3: the end, at once and after <; a byte after the root; > in a text; an end tag first; white after /
    ∷ read_said ab [] [] says refusal 3 0
    ∷ read_said ab (bytes "<a><") [] says refusal 3 4
    ∷ read_said ab (bytes "<a></a>x") [] says refusal 3 7
    ∷ read_said ab (bytes "<a>x>y</a>") [] says refusal 3 4
    ∷ read_said ab (bytes "</a>") [] says refusal 3 1
    ∷ read_said ab (bytes "<a / >") [] says refusal 3 4
    -- 4: a name that isn't listed, and nothing after it matters: the smaller place before the smaller number
    ∷ read_said ab (bytes "<c") [] says refusal 4 1
    ∷ read_said ab (bytes "<c&") [] says refusal 4 1
    -- 5: an end tag with another name; a name goes on as long as it can
    ∷ read_said ab (bytes "<a></b>") [] says refusal 5 5
    ∷ read_said ab (bytes "<a></aa") [] says refusal 5 5
    -- 6 and 7, by the number that refuses a place: an element at depth 32, and 33; an end tag there
    ∷ number_at ab (inside 31 31) (bytes "<a") gives 0
    ∷ number_at ab (inside 32 32) (bytes "<a") gives 6
    ∷ number_at ab (inside 32 32) (bytes "</a") gives 0
    -- node 4,096, and 4,097: a text, a start tag, an end tag; 6 before 7
    ∷ number_at ab (inside 1 4095) (bytes "x") gives 0
    ∷ number_at ab (inside 1 4096) (bytes "x") gives 7
    ∷ number_at ab (inside 1 4096) (bytes "<a") gives 7
    ∷ number_at ab (inside 1 4096) (bytes "</a") gives 0
    ∷ number_at ab (inside 32 4096) (bytes "<a") gives 6
    -- 9: no word; a sheet; another edition; 64 states, and 65; a final state at p, and at 32; 64 tags, and 65; 1,025 rules
    ∷ sheet_said [] says refusal 9 0
    ∷ sheet_said no_rule says count 6
    ∷ sheet_said (2 ∷ 1 ∷ 1 ∷ 0 ∷ 2 ∷ 0 ∷ []) says refusal 9 0
    ∷ sheet_said (1 ∷ 64 ∷ 1 ∷ 0 ∷ 2 ∷ 0 ∷ []) says count 6
    ∷ sheet_said (1 ∷ 65 ∷ 1 ∷ 0 ∷ 2 ∷ 0 ∷ []) says refusal 9 1
    ∷ sheet_said (1 ∷ 1 ∷ 2 ∷ 0 ∷ 2 ∷ 0 ∷ []) says refusal 9 2
    ∷ sheet_said (1 ∷ 1 ∷ 1 ∷ 1 ∷ 2 ∷ 0 ∷ []) says refusal 9 3
    ∷ sheet_said (1 ∷ 1 ∷ 1 ∷ 0 ∷ 64 ∷ 0 ∷ []) says count 6
    ∷ sheet_said (1 ∷ 1 ∷ 1 ∷ 0 ∷ 65 ∷ 0 ∷ []) says refusal 9 4
    ∷ sheet_said (1 ∷ 1 ∷ 1 ∷ 0 ∷ 2 ∷ 1025 ∷ []) says refusal 9 5
    -- a word after the last rule; no word where a rule begins; a map; a kind of text; a tag
    ∷ sheet_said (no_rule ++ (7 ∷ [])) says refusal 9 6
    ∷ sheet_said (one_rule []) says refusal 9 6
    ∷ sheet_said (one_rule (34 ∷ 1 ∷ 0 ∷ [])) says refusal 9 6
    ∷ sheet_said (one_rule (33 ∷ 3 ∷ 0 ∷ [])) says refusal 9 7
    ∷ sheet_said (one_rule (38 ∷ 3 ∷ 0 ∷ 0 ∷ [])) says refusal 9 7
    -- an arc; one that enters position 1 of one position
    ∷ sheet_said (one_rule (40 ∷ 1 ∷ 1 ∷ 0 ∷ 1 ∷ 0 ∷ 0 ∷ [])) says count 13
    ∷ sheet_said (one_rule (40 ∷ 1 ∷ 1 ∷ 0 ∷ 1 ∷ 1 ∷ 0 ∷ [])) says refusal 9 11
    -- step 0, not of step 0; the coefficients 0 and 32,768; −32,768, with remainder 3 on division by 3
    ∷ sheet_said (one_rule (48 ∷ 1 ∷ 3 ∷ 0 ∷ 0 ∷ [])) says refusal 9 9
    ∷ sheet_said (one_rule (48 ∷ 1 ∷ 1 ∷ 1 ∷ 0 ∷ 0 ∷ 0 ∷ 0 ∷ [])) says refusal 9 11
    ∷ sheet_said (one_rule (48 ∷ 1 ∷ 1 ∷ 1 ∷ 0 ∷ 32768 ∷ 0 ∷ 0 ∷ [])) says refusal 9 11
    ∷ sheet_said (one_rule (48 ∷ 1 ∷ 2 ∷ 1 ∷ 0 ∷ 4294934528 ∷ 3 ∷ 3 ∷ 0 ∷ [])) says refusal 9 13
    -- one byte over at a file's end
    ∷ from_file_said (file no_rule) (room 6) says count 6
    ∷ from_file_said (file no_rule ++ (7 ∷ [])) (room 6) says refusal 9 6
    -- 10: a tree; no node; a word over; 4,097 nodes; a symbol that is no tag; node 0 of another size than n
    ∷ tree_said 2 lone says count 1
    ∷ tree_said 2 [] says refusal 10 0
    ∷ tree_said 2 (lone ++ (9 ∷ [])) says refusal 10 1
    ∷ tree_said 2 (replicate 16388 0) says refusal 10 4097
    ∷ tree_said 2 (3 ∷ 1 ∷ 0 ∷ 0 ∷ []) says refusal 10 0
    ∷ tree_said 2 (1 ∷ 2 ∷ 0 ∷ 0 ∷ []) says refusal 10 0
    -- two texts side by side; a text of size 2; a node that ends after its parent; depth 32, and 33
    ∷ tree_said 2 (1 ∷ 3 ∷ 0 ∷ 0 ∷ 66 ∷ 1 ∷ 0 ∷ 1 ∷ 65 ∷ 1 ∷ 0 ∷ 1 ∷ []) says refusal 10 2
    ∷ tree_said 2 (1 ∷ 3 ∷ 0 ∷ 0 ∷ 2 ∷ 2 ∷ 0 ∷ 0 ∷ 66 ∷ 2 ∷ 0 ∷ 1 ∷ []) says refusal 10 2
    ∷ tree_said 2 (1 ∷ 3 ∷ 0 ∷ 0 ∷ 2 ∷ 3 ∷ 0 ∷ 0 ∷ 66 ∷ 1 ∷ 0 ∷ 1 ∷ []) says refusal 10 1
    ∷ tree_said 2 (nested 32) says count 32
    ∷ tree_said 2 (nested 33) says refusal 10 32
    -- 11: a text of kind 2, of kind 1; not trimmed; of the other kind; past the source; a tag whose text words aren't 0
    ∷ write_said ab (bytes "x1 ") (around 2) (room 9) says count 9
    ∷ write_said ab (bytes "x1 ") (1 ∷ 2 ∷ 0 ∷ 0 ∷ 65 ∷ 1 ∷ 1 ∷ 1 ∷ []) (room 9) says count 8
    ∷ write_said ab (bytes "x1 ") (around 3) (room 9) says refusal 11 1
    ∷ write_said ab (bytes "x1 ") (1 ∷ 2 ∷ 0 ∷ 0 ∷ 65 ∷ 1 ∷ 0 ∷ 2 ∷ []) (room 9) says refusal 11 1
    ∷ write_said ab (bytes "x1 ") (1 ∷ 2 ∷ 0 ∷ 0 ∷ 66 ∷ 1 ∷ 2 ∷ 2 ∷ []) (room 9) says refusal 11 1
    ∷ write_said ab (bytes "x1 ") (1 ∷ 2 ∷ 0 ∷ 1 ∷ 66 ∷ 1 ∷ 0 ∷ 2 ∷ []) (room 9) says refusal 11 0
    -- 20: T's tags; the sheet's, beside a name list
    ∷ join_said no_rule (1 ∷ 1 ∷ 1 ∷ 0 ∷ 3 ∷ 0 ∷ []) (room 6) says refusal 20 3
    ∷ formcheck ab (file (1 ∷ 1 ∷ 1 ∷ 0 ∷ 3 ∷ 0 ∷ [])) (bytes "<a/>") says refusal 20 3
    -- 21, at its six places, and before five of them a join that fits: 8 × 8 and 8 × 9 states; 32 × 32 and 32 × 33 rules
    ∷ join_said (with_rules 8 0 []) (with_rules 8 0 []) (room 6) says count 6
    ∷ join_said (with_rules 8 0 []) (with_rules 9 0 []) (room 6) says refusal 21 1
    ∷ join_said (with_rules 1 32 every_content) (with_rules 1 32 every_content) [] says refusal 22 2054
    ∷ join_said (with_rules 1 32 every_content) (with_rules 1 33 every_content) [] says refusal 21 2
    -- 8 × 8 and 8 × 9 positions; 32 × 32 and 32 × 33 arcs; 15 + 16 + 1 and 16 + 16 + 1 steps
    ∷ join_said (one_rule (by_order 8 0)) (one_rule (by_order 8 0)) (room 12) says count 12
    ∷ join_said (one_rule (by_order 8 0)) (one_rule (by_order 9 0)) (room 12) says refusal 21 3
    ∷ join_said (one_rule (by_order 1 32)) (one_rule (by_order 1 32)) [] says refusal 22 1036
    ∷ join_said (one_rule (by_order 1 32)) (one_rule (by_order 1 33)) [] says refusal 21 4
    ∷ join_said (one_rule (by_count 15)) (one_rule (by_count 16)) (room 136) says count 136
    ∷ join_said (one_rule (by_count 16)) (one_rule (by_count 16)) (room 136) says refusal 21 5
    -- 6 + 16 × (6 + 16 × 64) words
    ∷ join_said (one_rule (by_order 1 16)) (with_rules 64 16 every_content) [] says refusal 21 6
    -- the first of these: 1 before 2, 2 before 3, 3 before 4, 4 before 5, 5 before 6
    ∷ join_said (with_rules 8 32 every_content) (with_rules 9 33 every_content) [] says refusal 21 1
    ∷ join_said (with_rules 1 32 (by_order 8 0)) (with_rules 1 33 (by_order 9 0)) [] says refusal 21 2
    ∷ join_said (one_rule (by_order 8 32)) (one_rule (by_order 9 33)) [] says refusal 21 3
    ∷ join_said (one_rule (by_both 1 32 16)) (one_rule (by_both 1 33 16)) [] says refusal 21 4
    ∷ join_said (one_rule (by_both 1 16 32)) (with_rules 64 16 (by_count 1)) [] says refusal 21 5
    -- 22: what read, write, file, judge, swap and join need; where there is room, words past the answer keep their contents
    ∷ read_said ab (bytes " <a>\n<b /> 12 </a> ") (room 11) says refusal 22 12
    ∷ read_tree ab (bytes "<a>x</a>") (room 9) leaves (1 ∷ 2 ∷ 0 ∷ 0 ∷ 66 ∷ 1 ∷ 3 ∷ 1 ∷ 7 ∷ [])
    ∷ write_said ab (bytes "x") (around 1) (room 7) says refusal 22 8
    ∷ write_out ab (bytes "x") (around 1) (room 9) leaves (bytes "<a>x</a>" ++ (7 ∷ []))
    ∷ from_file_said (file no_rule) (room 5) says refusal 22 6
    ∷ from_file_sheet (file no_rule) (room 7) leaves (no_rule ++ (7 ∷ []))
    ∷ judge_said no_rule lone [] says refusal 22 1
    ∷ judge_said no_rule lone (room 2) says stuck 0 0
    ∷ judge_states no_rule lone (room 2) leaves (0 ∷ 7 ∷ [])
    ∷ swap_said no_rule (room 5) says refusal 22 6
    ∷ swap_out no_rule (room 7) leaves (1 ∷ 1 ∷ 0 ∷ 0 ∷ 2 ∷ 0 ∷ 7 ∷ [])
    ∷ join_said no_rule (with_rules 2 0 []) (room 5) says refusal 22 6
    ∷ join_out no_rule (1 ∷ 2 ∷ 2 ∷ 0 ∷ 2 ∷ 0 ∷ []) (room 7) leaves (1 ∷ 2 ∷ 2 ∷ 0 ∷ 2 ∷ 0 ∷ 7 ∷ [])
    -- a refusal writes nothing
    ∷ read_tree ab (bytes "<a>x</a>") (room 7) leaves room 7
    ∷ write_out ab (bytes "x") (around 1) (room 7) leaves room 7
    ∷ from_file_sheet (file no_rule) (room 5) leaves room 5
    ∷ judge_states (doubles 2) (3 ∷ 1 ∷ 0 ∷ 0 ∷ []) (room 2) leaves room 2
    ∷ swap_out no_rule (room 5) leaves room 5
    ∷ join_out no_rule (with_rules 2 0 []) (room 5) leaves room 5
    -- 23, at the highest-numbered of two such nodes; it zeroes the first n state words
    ∷ judge_said (doubles 2) (nested 2) (room 3) says refusal 23 1
    ∷ judge_states (doubles 2) (nested 2) (room 3) leaves (0 ∷ 0 ∷ 7 ∷ [])
    -- two at once, in reading: 8 before 1, before 2 to 7; these before 22
    ∷ read_said [] (xs 65536) [] says refusal 8 0
    ∷ read_said [] (bytes "&") [] says refusal 8 0
    ∷ read_said ab (bytes "<a>x</a>&") [] says refusal 2 8
    -- in writing: 8 before 1; 10 before 11, at whatever nodes; 11 before 22
    ∷ write_said [] (xs 65536) [] [] says refusal 8 0
    ∷ write_said ab (bytes "x") (1 ∷ 2 ∷ 0 ∷ 1 ∷ 3 ∷ 1 ∷ 0 ∷ 0 ∷ []) [] says refusal 10 1
    ∷ write_said ab (bytes "x") (around 2) [] says refusal 11 1
    -- in judging: 9 before 10, 10 before 22, 22 before 23
    ∷ judge_said [] [] [] says refusal 9 0
    ∷ judge_said (doubles 2) (3 ∷ 1 ∷ 0 ∷ 0 ∷ []) [] says refusal 10 0
    ∷ judge_said (doubles 2) lone [] says refusal 22 1
    -- with files, in swapping and joining: 9 before 22; 9 of S before 9 of T; 9 of T before 20; 20 before 21; 21 before 22
    ∷ from_file_said (7 ∷ []) [] says refusal 9 0
    ∷ swap_said [] [] says refusal 9 0
    ∷ join_said (one_rule (34 ∷ [])) [] [] says refusal 9 6
    ∷ join_said no_rule (1 ∷ 1 ∷ 1 ∷ 0 ∷ 3 ∷ 0 ∷ 7 ∷ []) [] says refusal 9 20006
    ∷ join_said (with_rules 8 0 []) (1 ∷ 9 ∷ 1 ∷ 0 ∷ 3 ∷ 0 ∷ []) [] says refusal 20 3
    ∷ join_said (with_rules 8 0 []) (with_rules 9 0 []) [] says refusal 21 1
    -- in formcheck: 8 before 9, 9 before the text, the text before 20, 20 before the run; the run
    ∷ formcheck [] [] [] says refusal 8 0
    ∷ formcheck ab [] [] says refusal 9 0
    ∷ formcheck ab (file (doubles 3)) (bytes "<c/>") says refusal 4 1
    ∷ formcheck ab (file (doubles 3)) (bytes "<a/>") says refusal 20 3
    ∷ formcheck ab (file (doubles 2)) (bytes "<a/>") says refusal 23 0
    ∷ []
