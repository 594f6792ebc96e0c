-- Document 01's cases 1 to 10; beside them runs that tell each kind of step and the looks of an order part, and joins word by word.
use mathlib.Core.List.{List, [], ◌∷◌, ◌++◌, flat_map}
use Rattle.std.specs.Prelude.{ℕ, suc, ◌+◌, ◌*◌, ◌-◌, negsuc, length}
use Prim.Native.String.{String}
use Rattle.model.specs.Answers.{Said, count, accepted, refused, stuck, refusal, looks_in}
use Rattle.model.specs.Words.{remainder_of}
use Rattle.model.specs.Calls.{read_tree, judge_said, judge_states, swap_out, join_said, join_out, formcheck}
use Rattle.model.specs.Line.{bytes, formcheck_line}
use Rattle.model.specs.Examples.{Row, ◌says◌, ◌leaves◌, ◌gives◌, ◌stays_within◌, room, times, file}

-- ---- the sheets and the names

-- Tags: ct, oven, site, units.
unfoldable pub list : List ℕ
list = bytes "ct\noven\nsite\nunits\n"

-- S: edition, states, final states, tags, rules; a text of kind 2; the four tags; as many ovens as sensors
unfoldable pub rules_of_S : List ℕ
rules_of_S =
    (33 ∷ 2 ∷ 0 ∷ [])
    ++ (38 ∷ 1 ∷ 0 ∷ 1 ∷ []) ++ (38 ∷ 2 ∷ 0 ∷ 2 ∷ []) ++ (38 ∷ 4 ∷ 0 ∷ 3 ∷ []) ++ (38 ∷ 3 ∷ 0 ∷ 4 ∷ [])
    ++ (48 ∷ 3 ∷ []) ++ (1 ∷ 6 ∷ 0 ∷ 1 ∷ 4294967295 ∷ 0 ∷ []) ++ (1 ∷ 6 ∷ 0 ∷ 4294967295 ∷ 1 ∷ 0 ∷ []) ++ (4 ∷ 0 ∷ 1 ∷ []) ++ (0 ∷ [])

unfoldable pub S : List ℕ
S = (1 ∷ 5 ∷ 16 ∷ 0 ∷ 4 ∷ 6 ∷ []) ++ rules_of_S

-- S plus rule 33 2 1
unfoldable pub S_plus : List ℕ
S_plus = (1 ∷ 5 ∷ 16 ∷ 0 ∷ 4 ∷ 7 ∷ []) ++ rules_of_S ++ (33 ∷ 2 ∷ 1 ∷ [])

-- S swapped: word 2 is 15
unfoldable pub S_swapped : List ℕ
S_swapped = (1 ∷ 5 ∷ 15 ∷ 0 ∷ 4 ∷ 6 ∷ []) ++ rules_of_S

-- T has one state, final, and seven rules that take everything to it
unfoldable pub T : List ℕ
T =
    (1 ∷ 1 ∷ 1 ∷ 0 ∷ 4 ∷ 7 ∷ []) ++ (33 ∷ 1 ∷ 0 ∷ []) ++ (33 ∷ 2 ∷ 0 ∷ [])
    ++ (38 ∷ 1 ∷ 0 ∷ 0 ∷ []) ++ (38 ∷ 2 ∷ 0 ∷ 0 ∷ []) ++ (38 ∷ 3 ∷ 0 ∷ 0 ∷ []) ++ (38 ∷ 4 ∷ 0 ∷ 0 ∷ []) ++ (32 ∷ 0 ∷ [])

-- a sheet of p states without rules
unfoldable pub bare_sheet : ℕ → List ℕ
bare_sheet p = 1 ∷ p ∷ 0 ∷ 0 ∷ 4 ∷ 0 ∷ []

-- what formcheck says of a form by a sheet
unfoldable pub check : (sheet : List ℕ) (form : String) → Said
check sheet form = formcheck list (file sheet) (bytes form)

-- ---- sheets that count leaves

-- the tree <a><b/> … <b/></a> of n leaves, where a is tag 1 and b tag 2
unfoldable pub with_leaves : ℕ → List ℕ
with_leaves n = (1 ∷ suc n ∷ 0 ∷ 0 ∷ []) ++ times n (2 ∷ 1 ∷ 0 ∷ 0 ∷ [])

unfoldable pub judge_leaves : (sheet : List ℕ) → ℕ → Said
judge_leaves sheet n = judge_said sheet (with_leaves n) (room (suc n))

-- A leaf has state 0. Content reaches 0 by an order part with arcs from 0 to 1 and from 1 to 2 that read 0; 0 and 2 accept. Then a has
-- state 1, which is final.
unfoldable pub two_leaves : List ℕ
two_leaves =
    (1 ∷ 2 ∷ 2 ∷ 0 ∷ 2 ∷ 3 ∷ []) ++ (40 ∷ 3 ∷ 5 ∷ 0 ∷ 2 ∷ 1 ∷ 65538 ∷ 0 ∷ []) ++ (38 ∷ 2 ∷ 0 ∷ 0 ∷ []) ++ (38 ∷ 1 ∷ 0 ∷ 1 ∷ [])

-- A leaf has state 0: its content reaches 0 by an order part without arcs. Content reaches 1 by the steps of a count part. Then a has
-- state 2, which is final.
unfoldable pub counts_by : (steps : List (List ℕ)) → List ℕ
counts_by steps =
    (1 ∷ 3 ∷ 4 ∷ 0 ∷ 2 ∷ 4 ∷ []) ++ (40 ∷ 1 ∷ 1 ∷ 0 ∷ 0 ∷ 0 ∷ []) ++ (48 ∷ length steps ∷ []) ++ flat_map (λ s. s) steps ++ (1 ∷ [])
    ++ (38 ∷ 2 ∷ 0 ∷ 0 ∷ []) ++ (38 ∷ 1 ∷ 1 ∷ 2 ∷ [])

-- steps: at most k leaves; at least k, with −1 for each leaf and the bound −k
unfoldable pub most : ℕ → List ℕ
most k = 1 ∷ 1 ∷ 0 ∷ 1 ∷ k ∷ []

unfoldable pub least : ℕ → List ℕ
least k = 1 ∷ 1 ∷ 0 ∷ 4294967295 ∷ (4294967296 - k) ∷ []

-- the number of leaves leaves r on division by 3; minus that number does
unfoldable pub leave : ℕ → List ℕ
leave r = 2 ∷ 1 ∷ 0 ∷ 1 ∷ 3 ∷ r ∷ []

unfoldable pub minus_leave : ℕ → List ℕ
minus_leave r = 2 ∷ 1 ∷ 0 ∷ 4294967295 ∷ 3 ∷ r ∷ []

-- ---- joint rules

-- a sheet of p states, the first final, and two tags, with one rule
unfoldable pub sheet_with : (p : ℕ) → List ℕ → List ℕ
sheet_with p rule = (1 ∷ p ∷ 1 ∷ 0 ∷ 2 ∷ 1 ∷ []) ++ rule

-- sheets without content rules: final states 0 and 1, and final state 1
unfoldable pub texts_and_tags_S : List ℕ
texts_and_tags_S = (1 ∷ 2 ∷ 3 ∷ 0 ∷ 2 ∷ 3 ∷ []) ++ (33 ∷ 1 ∷ 0 ∷ []) ++ (33 ∷ 2 ∷ 1 ∷ []) ++ (38 ∷ 1 ∷ 0 ∷ 1 ∷ [])

unfoldable pub texts_and_tags_T : List ℕ
texts_and_tags_T =
    (1 ∷ 2 ∷ 2 ∷ 0 ∷ 2 ∷ 4 ∷ []) ++ (33 ∷ 2 ∷ 0 ∷ []) ++ (33 ∷ 2 ∷ 1 ∷ []) ++ (38 ∷ 1 ∷ 1 ∷ 0 ∷ []) ++ (38 ∷ 2 ∷ 0 ∷ 0 ∷ [])

-- two rules, over two states each, and their joint rule
unfoldable pub joint_rule : (first second joint : List ℕ) → Row
joint_rule first second joint = join_out (sheet_with 2 first) (sheet_with 2 second) (room (6 + length joint)) leaves sheet_with 4 joint

-- ---- the table

unfoldable pub table : List Row
table =
    -- 1: accepted 4, 23 looks; the line of formcheck
    check S "<site><oven/><ct/><units/></site>" says accepted 4 23
    ∷ formcheck_line list (file S) (bytes "<site><oven/><ct/><units/></site>") leaves bytes "accepted 4 23\n"
    -- 2: stuck 0, 13
    ∷ check S "<site><oven/><units/></site>" says stuck 0 13
    ∷ formcheck_line list (file S) (bytes "<site><oven/><units/></site>") leaves bytes "stuck 0 13\n"
    -- 3: refused 3, 5; text at 8, length 3
    ∷ check S "<units> kWh </units>" says refused 3 5
    ∷ read_tree list (bytes "<units> kWh </units>") (room 8) leaves (4 ∷ 2 ∷ 0 ∷ 0 ∷ 66 ∷ 1 ∷ 8 ∷ 3 ∷ [])
    -- 4: the same for <units/>, or white inside
    ∷ check S "<units/>" says refused 3 5
    ∷ check S "<units> </units>" says refused 3 5
    -- 5: stuck 0, 9
    ∷ check S "<site><oven/></site>" says stuck 0 9
    -- 6: case 3 with S plus rule 33 2 1: 23, place 1
    ∷ check S_plus "<units> kWh </units>" says refusal 23 1
    ∷ formcheck_line list (file S_plus) (bytes "<units> kWh </units>") leaves bytes "error 23 1\n"
    -- 7: S swapped has word 2 = 15; case 3: accepted 3, 5
    ∷ swap_out S (room 43) leaves S_swapped
    ∷ check S_swapped "<units> kWh </units>" says accepted 3 5
    -- 8: S joined with T is S again; case 1: 23, at most 2 × 4 × 6 × 7 = 336
    ∷ join_out S T (room 43) leaves S
    ∷ check (join_out S T (room 43)) "<site><oven/><ct/><units/></site>" says accepted 4 23
    ∷ looks_in (check (join_out S T (room 43)) "<site><oven/><ct/><units/></site>") stays_within (2 * 4 * 6 * 7)
    -- 9: 8 and 8 states join; 5 and 13: 21, place 1
    ∷ join_said (bare_sheet 8) (bare_sheet 8) (room 6) says count 6
    ∷ join_said (bare_sheet 5) (bare_sheet 13) (room 6) says refusal 21 1
    -- 10: −1 leaves 2 on division by 3
    ∷ remainder_of (negsuc 0) 3 gives 2
    -- Beside these: an integer has no state by S, and stuck names the highest-numbered node without one.
    ∷ check S "<units>12</units>" says stuck 1 1
    ∷ judge_said (counts_by (least 3 ∷ [])) (1 ∷ 3 ∷ 0 ∷ 0 ∷ 1 ∷ 1 ∷ 0 ∷ 0 ∷ 1 ∷ 1 ∷ 0 ∷ 0 ∷ []) (room 3) says stuck 2 8
    -- the state words: state + 1 or 0
    ∷ judge_states two_leaves (with_leaves 2) (room 3) leaves (2 ∷ 1 ∷ 1 ∷ [])
    ∷ judge_states two_leaves (with_leaves 3) (room 4) leaves (0 ∷ 1 ∷ 1 ∷ 1 ∷ [])
    -- an order part: the third leaf empties the set of positions and is read; a fourth is not read
    ∷ judge_leaves two_leaves 2 says accepted 1 11
    ∷ judge_leaves two_leaves 3 says stuck 0 13
    ∷ judge_leaves two_leaves 4 says stuck 0 16
    -- step 1, at most
    ∷ judge_leaves (counts_by (most 2 ∷ [])) 2 says accepted 2 15
    ∷ judge_leaves (counts_by (most 2 ∷ [])) 3 says stuck 0 18
    -- step 2, remainder: 2 and −4 leave 2 on division by 3; 3 and −2 don't
    ∷ judge_leaves (counts_by (leave 2 ∷ [])) 2 says accepted 2 15
    ∷ judge_leaves (counts_by (leave 2 ∷ [])) 3 says stuck 0 18
    ∷ judge_leaves (counts_by (minus_leave 2 ∷ [])) 4 says accepted 2 25
    ∷ judge_leaves (counts_by (minus_leave 2 ∷ [])) 2 says stuck 0 13
    -- step 3, not
    ∷ judge_leaves (counts_by (most 2 ∷ (3 ∷ 0 ∷ []) ∷ [])) 3 says accepted 2 20
    ∷ judge_leaves (counts_by (most 2 ∷ (3 ∷ 0 ∷ []) ∷ [])) 2 says stuck 0 13
    -- step 4, and: both; the first alone; the second alone
    ∷ judge_leaves (counts_by (most 3 ∷ least 3 ∷ (4 ∷ 0 ∷ 1 ∷ []) ∷ [])) 3 says accepted 2 20
    ∷ judge_leaves (counts_by (most 3 ∷ least 3 ∷ (4 ∷ 0 ∷ 1 ∷ []) ∷ [])) 2 says stuck 0 13
    ∷ judge_leaves (counts_by (most 3 ∷ least 3 ∷ (4 ∷ 0 ∷ 1 ∷ []) ∷ [])) 4 says stuck 0 23
    -- step 5, or: the first alone; the second alone; neither
    ∷ judge_leaves (counts_by (most 2 ∷ least 4 ∷ (5 ∷ 0 ∷ 1 ∷ []) ∷ [])) 2 says accepted 2 15
    ∷ judge_leaves (counts_by (most 2 ∷ least 4 ∷ (5 ∷ 0 ∷ 1 ∷ []) ∷ [])) 4 says accepted 2 25
    ∷ judge_leaves (counts_by (most 2 ∷ least 4 ∷ (5 ∷ 0 ∷ 1 ∷ []) ∷ [])) 3 says stuck 0 18
    -- the last step decides: the first alone; the last alone
    ∷ judge_leaves (counts_by (most 2 ∷ least 3 ∷ [])) 2 says stuck 0 13
    ∷ judge_leaves (counts_by (most 2 ∷ least 3 ∷ [])) 3 says accepted 2 20
    -- joins, word by word. Rules pair up, S's order outermost, by text kind and by tag; a pair is final if both halves are.
    ∷ join_out texts_and_tags_S texts_and_tags_T (room 16) leaves (1 ∷ 4 ∷ 10 ∷ 0 ∷ 2 ∷ 3 ∷ 33 ∷ 2 ∷ 2 ∷ 33 ∷ 2 ∷ 3 ∷ 38 ∷ 1 ∷ 1 ∷ 2 ∷ [])
    -- an order part of S alone, and of T alone: the arc from 0 by 1 to 1, once for each state of the other sheet
    ∷ joint_rule (40 ∷ 2 ∷ 2 ∷ 0 ∷ 1 ∷ 257 ∷ 1 ∷ []) (32 ∷ 1 ∷ []) (40 ∷ 2 ∷ 2 ∷ 0 ∷ 2 ∷ 513 ∷ 769 ∷ 3 ∷ [])
    ∷ joint_rule (32 ∷ 1 ∷ []) (40 ∷ 2 ∷ 2 ∷ 0 ∷ 1 ∷ 257 ∷ 1 ∷ []) (40 ∷ 2 ∷ 2 ∷ 0 ∷ 2 ∷ 257 ∷ 769 ∷ 3 ∷ [])
    -- two order parts: S accepts at 1, T at 0; the pairs of arcs, S outermost
    ∷ joint_rule (40 ∷ 2 ∷ 2 ∷ 0 ∷ 2 ∷ 257 ∷ 65536 ∷ 1 ∷ []) (40 ∷ 2 ∷ 1 ∷ 0 ∷ 2 ∷ 1 ∷ 65792 ∷ 1 ∷ [])
    (40 ∷ 4 ∷ 4 ∷ 0 ∷ 4 ∷ 515 ∷ 66306 ∷ 131073 ∷ 196864 ∷ 3 ∷ [])
    -- a count part of S alone, and of T alone: the coefficient 5 of state 1, for each pair of which it is the half
    ∷ joint_rule (48 ∷ 1 ∷ 1 ∷ 2 ∷ 0 ∷ 5 ∷ 7 ∷ 1 ∷ []) (32 ∷ 1 ∷ []) (48 ∷ 1 ∷ 1 ∷ 12 ∷ 0 ∷ 5 ∷ 5 ∷ 7 ∷ 3 ∷ [])
    ∷ joint_rule (32 ∷ 1 ∷ []) (48 ∷ 1 ∷ 1 ∷ 2 ∷ 0 ∷ 5 ∷ 7 ∷ 1 ∷ []) (48 ∷ 1 ∷ 1 ∷ 10 ∷ 0 ∷ 5 ∷ 5 ∷ 7 ∷ 3 ∷ [])
    -- two count parts: S first, step numbers shifted, closed by an and
    ∷ joint_rule (48 ∷ 2 ∷ 1 ∷ 2 ∷ 0 ∷ 5 ∷ 7 ∷ 3 ∷ 0 ∷ 1 ∷ []) (48 ∷ 2 ∷ 2 ∷ 2 ∷ 0 ∷ 6 ∷ 4 ∷ 1 ∷ 3 ∷ 0 ∷ 1 ∷ [])
    (48 ∷ 5 ∷ 1 ∷ 12 ∷ 0 ∷ 5 ∷ 5 ∷ 7 ∷ 3 ∷ 0 ∷ 2 ∷ 10 ∷ 0 ∷ 6 ∷ 6 ∷ 4 ∷ 1 ∷ 3 ∷ 2 ∷ 4 ∷ 1 ∷ 3 ∷ 3 ∷ [])
    ∷ []
