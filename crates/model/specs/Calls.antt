-- The public calls: what each says and what each lent buffer then holds, by all that it is given.
-- Order within a call: 8, 1, 2 to 7, 9, 10, 11, 20, 21, 24, 22, 23. A refusal writes nothing, but 23 zeroes the first n
-- state words. Words past an answer keep their contents.
use Rattle.std.specs.Prelude.{List, ◌++◌, ℕ, ◌+◌, ◌*◌, eqb, leb, length, drop, replicate}
use Rattle.model.specs.Answers.{Said, refusal, Checked, passes, refuses, ◌>>=◌, require, room_for, answer_of, buffer_after, ◌>>◌}
use Rattle.model.specs.Tree.{Document, size, sizeD, nodes, wordsD, tree_of}
use Rattle.model.specs.Sheet.{Sheet, sheet_of, sheet_words, file_words}
use Rattle.model.specs.Run.{Ran, ran, two_at, items, run, verdict}
use Rattle.model.specs.Compose.{swapped, joint, within_limits}
use Rattle.model.specs.Names.{names_of}
use Rattle.model.specs.Text.{form_of}
use Rattle.model.specs.Written.{written, texts_checked, short_enough}

-- ---- name list check: the number of names

unfoldable pub names_said : List ℕ → Said
names_said list = answer_of (λ g. g) (names_of list)

-- ---- read: a text and a name list to the words of a tree; the number of nodes

unfoldable pub read : (list s : List ℕ) (room : ℕ) → Checked Document
read list s room = do
  g ← names_of list
  d ← form_of list s
  room_for (4 * sizeD d) room
  passes d

unfoldable pub read_said : (list s tree : List ℕ) → Said
read_said list s tree = answer_of sizeD (read list s (length tree))

unfoldable pub read_tree : (list s tree : List ℕ) → List ℕ
read_tree list s tree = buffer_after tree (read list s (length tree) >>= λ d. passes (wordsD d))

-- ---- tree check: the number of nodes

unfoldable pub tree_said : ℕ → List ℕ → Said
tree_said g tree = answer_of size (tree_of g tree)

-- ---- write: a tree, the text that it was read from and a name list to the written form; its number of bytes

unfoldable pub write : (list s tree : List ℕ) (room : ℕ) → Checked (List ℕ)
write list s tree room = do
  g ← names_of list
  require (leb (length s) 65535) 1 65535
  e ← tree_of g tree
  texts_checked s 0 (nodes e)
  bytes ← short_enough (written list s e)
  room_for (length bytes) room
  passes bytes

unfoldable pub write_said : (list s tree out : List ℕ) → Said
write_said list s tree out = answer_of length (write list s tree (length out))

unfoldable pub write_out : (list s tree out : List ℕ) → List ℕ
write_out list s tree out = buffer_after out (write list s tree (length out))

-- ---- sheet check, and sheet from the bytes of a file: the number of words

unfoldable pub sheet_said : List ℕ → Said
sheet_said sheet = answer_of (λ s. length sheet) (sheet_of sheet)

unfoldable pub from_file : (bytes : List ℕ) (room : ℕ) → Checked (List ℕ)
from_file bytes room = do
  s ← sheet_of (file_words bytes)
  room_for (length (file_words bytes)) room
  passes (file_words bytes)

unfoldable pub from_file_said : (bytes sheet : List ℕ) → Said
from_file_said bytes sheet = answer_of length (from_file bytes (length sheet))

unfoldable pub from_file_sheet : (bytes sheet : List ℕ) → List ℕ
from_file_sheet bytes sheet = buffer_after sheet (from_file bytes (length sheet))

-- ---- judge: a sheet and a tree; the verdict, and the state words

-- a run's result, with the sheet's final states and the number of nodes
pub record Judged : Type 0 where
  pub final : List ℕ
  pub nodes : ℕ
  pub outcome : Ran

unfoldable pub judge : (sheet tree : List ℕ) (room : ℕ) → Checked Judged
judge sheet tree room = do
  s ← sheet_of sheet
  e ← tree_of s.tags tree
  room_for (size e) room
  passes (record { final = s.final; nodes = size e; outcome = run s.rules (items tree) })

unfoldable pub verdict_of : Checked Judged → Said
verdict_of (passes j) = verdict j.final j.outcome
verdict_of (refuses n i) = refusal n i

unfoldable pub judge_said : (sheet tree states : List ℕ) → Said
judge_said sheet tree states = verdict_of (judge sheet tree (length states))

-- the first n state words: state + 1 or 0 for each node; 23 zeroes them
unfoldable pub first_states : ℕ → Ran → List ℕ
first_states n (ran st m) = st
first_states n (two_at i) = replicate n 0

unfoldable pub states_after : List ℕ → Checked Judged → List ℕ
states_after states (passes j) = first_states j.nodes j.outcome ++ drop j.nodes states
states_after states (refuses n i) = states

unfoldable pub judge_states : (sheet tree states : List ℕ) → List ℕ
judge_states sheet tree states = states_after states (judge sheet tree (length states))

-- ---- swap: a sheet to its swapped sheet; the number of words

unfoldable pub swap : (sheet : List ℕ) (room : ℕ) → Checked (List ℕ)
swap sheet room = do
  s ← sheet_of sheet
  room_for (length (sheet_words (swapped s))) room
  passes (sheet_words (swapped s))

unfoldable pub swap_said : (sheet out : List ℕ) → Said
swap_said sheet out = answer_of length (swap sheet (length out))

unfoldable pub swap_out : (sheet out : List ℕ) → List ℕ
swap_out sheet out = buffer_after out (swap sheet (length out))

-- ---- join: two sheets to their joint sheet; the number of words

-- 9: S before T, T's place plus 20,000
unfoldable pub in_second : {A : Type 0} → Checked A → Checked A
in_second (passes a) = passes a
in_second (refuses n i) = refuses n (i + 20000)

-- two sheets join within the limits if 9, 20 and 21 don't refuse them
unfoldable pub joined : (first second : List ℕ) → Checked Sheet
joined first second = do
  s ← sheet_of first
  t ← in_second (sheet_of second)
  require (eqb s.tags t.tags) 20 t.tags
  within_limits (joint s t)
  passes (joint s t)

unfoldable pub join : (first second : List ℕ) (room : ℕ) → Checked (List ℕ)
join first second room = do
  j ← joined first second
  room_for (length (sheet_words j)) room
  passes (sheet_words j)

unfoldable pub join_said : (first second out : List ℕ) → Said
join_said first second out = answer_of length (join first second (length out))

unfoldable pub join_out : (first second out : List ℕ) → List ℕ
join_out first second out = buffer_after out (join first second (length out))

-- ---- formcheck: a name list, a sheet's file and a form. Its checks: 8, 9, text, 20 with the sheet's count, run.

unfoldable pub formcheck : (list bytes s : List ℕ) → Said
formcheck list bytes s = verdict_of (do
  g ← names_of list
  sheet ← sheet_of (file_words bytes)
  d ← form_of list s
  require (eqb g sheet.tags) 20 sheet.tags
  passes (record { final = sheet.final; nodes = sizeD d; outcome = run sheet.rules (items (wordsD d)) }))
