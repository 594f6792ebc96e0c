-- Reading a form: document 01, "Text and names", refusals 1 to 7, and the tree of a text.
use Rattle.std.specs.Prelude.{Bool, false, cond, not, ◌&&◌, ◌||◌, List, [], ◌∷◌, ℕ, zero, suc, eqb, leb, length, drop, get_or}
use Rattle.model.specs.Answers.{Checked, passes, refuses, require, ◌>>◌}
use Rattle.model.specs.Tree.{Element, text, tag, Document, ε, ◌·◌}
use Rattle.model.specs.Bytes.{Class, white, less, forbidden, class_number, is, class_of, letter_byte, name_byte, kind_of_text}
use Rattle.model.specs.Names.{tag_of}

-- ---- the grammar of a form, as an automaton over classes

-- Where in a form a byte stands: before the root; after its <; in content with nothing but white since the last tag; in a
-- text; after a < in content; in a start tag's name; after that name; after a start tag's /; after </; in an end tag's name;
-- after that name; after the root.
pub data Place : Type 0 where
  before root_open blank in_text tag_open start_name start_gap start_slash end_open end_name end_gap after : Place

-- What a byte does there: go on to a place; begin the name of a start tag, a text, the name of an end tag; end an element;
-- or the form can't go on with it.
pub data Move : Type 0 where
  to : Place → Move
  opens begins names closes stops : Move

-- A form is one element with white around it. After a tag's name white may stand. Bytes between tags, with at least one
-- that isn't white, are a text; < and > end or break it.
-- The moves of a place, one for each class: white, letter, digit, hyphen, <, >, /, other, forbidden.
unfoldable pub moves : Place → List Move
moves before = to before ∷ stops ∷ stops ∷ stops ∷ to root_open ∷ stops ∷ stops ∷ stops ∷ stops ∷ []
moves root_open = stops ∷ opens ∷ stops ∷ stops ∷ stops ∷ stops ∷ stops ∷ stops ∷ stops ∷ []
moves blank = to blank ∷ begins ∷ begins ∷ begins ∷ to tag_open ∷ stops ∷ begins ∷ begins ∷ stops ∷ []
moves in_text = to in_text ∷ to in_text ∷ to in_text ∷ to in_text ∷ to tag_open ∷ stops ∷ to in_text ∷ to in_text ∷ stops ∷ []
moves tag_open = stops ∷ opens ∷ stops ∷ stops ∷ stops ∷ stops ∷ to end_open ∷ stops ∷ stops ∷ []
moves start_name = to start_gap ∷ to start_name ∷ to start_name ∷ to start_name ∷ stops ∷ to blank ∷ to start_slash ∷ stops ∷ stops ∷ []
moves start_gap = to start_gap ∷ stops ∷ stops ∷ stops ∷ stops ∷ to blank ∷ to start_slash ∷ stops ∷ stops ∷ []
moves start_slash = stops ∷ stops ∷ stops ∷ stops ∷ stops ∷ closes ∷ stops ∷ stops ∷ stops ∷ []
moves end_open = stops ∷ names ∷ stops ∷ stops ∷ stops ∷ stops ∷ stops ∷ stops ∷ stops ∷ []
moves end_name = to end_gap ∷ to end_name ∷ to end_name ∷ to end_name ∷ stops ∷ closes ∷ stops ∷ stops ∷ stops ∷ []
moves end_gap = to end_gap ∷ stops ∷ stops ∷ stops ∷ stops ∷ closes ∷ stops ∷ stops ∷ stops ∷ []
moves after = to after ∷ stops ∷ stops ∷ stops ∷ stops ∷ stops ∷ stops ∷ stops ∷ stops ∷ []

unfoldable pub move : Place → Class → Move
move p c = get_or (moves p) (class_number c) stops

-- their numbers, in a table
unfoldable pub place_number : Place → ℕ
place_number before = 0
place_number root_open = 1
place_number blank = 2
place_number in_text = 3
place_number tag_open = 4
place_number start_name = 5
place_number start_gap = 6
place_number start_slash = 7
place_number end_open = 8
place_number end_name = 9
place_number end_gap = 10
place_number after = 11

unfoldable pub move_number : Move → ℕ
move_number (to p) = place_number p
move_number opens = 12
move_number begins = 13
move_number names = 14
move_number closes = 15
move_number stops = 16

unfoldable pub does : Move → Move → Bool
does m k = eqb (move_number m) (move_number k)

-- ---- what is read before a byte

-- an open element: its tag, and the content of its parent before it
pub record Open : Type 0 where
  pub name : ℕ
  pub earlier : Document

-- where the byte stands; the content being read, so far; the open elements, innermost first; the number of nodes so far
pub record State : Type 0 where
  pub place : Place
  pub content : Document
  pub opened : List Open
  pub nodes : ℕ

abbrev pub start : State
start = record { place = before; content = ε; opened = []; nodes = 0 }

-- a tag's name goes on as long as it can
unfoldable pub name_at : List ℕ → List ℕ
name_at [] = []
name_at (b ∷ s) = cond (name_byte b) (b ∷ name_at s) []

-- the bytes up to the next <, trimmed at their end
unfoldable pub trimmed : ℕ → List ℕ → List ℕ
trimmed b [] = cond (is (class_of b) white) [] (b ∷ [])
trimmed b (c ∷ s) = b ∷ c ∷ s

unfoldable pub text_at : List ℕ → List ℕ
text_at [] = []
text_at (b ∷ s) = cond (is (class_of b) less) [] (trimmed b (text_at s))

-- an element behind a document
unfoldable pub behind : Document → Element → Document
behind ε f = f · ε
behind (e · d) f = e · behind d f

-- A text's node says where the text starts and how long it is; the reader gives a tag 0 in the last two words.
unfoldable pub text_node : ℕ → List ℕ → Element
text_node i bytes = text (kind_of_text bytes) (record { start = i; bytes = length bytes })

unfoldable pub tag_node : ℕ → Document → Element
tag_node a d = tag a (record { start = 0; bytes = 0 }) d

-- in content, or after the root where no element is open
unfoldable pub outside : List Open → Place
outside [] = after
outside (o ∷ os) = blank

-- an element ends: it stands behind what its parent held before it
unfoldable pub closed : Document → List Open → ℕ → State
closed d [] n = record { place = after; content = d; opened = []; nodes = n }
closed d (o ∷ os) n = record { place = outside os; content = behind o.earlier (tag_node o.name d); opened = os; nodes = n }

-- the state after the byte at offset i, with which the text goes on as `rest`
unfoldable pub moved : List ℕ → State → ℕ → List ℕ → Move → State
moved list st i rest (to p) = record { place = p; content = st.content; opened = st.opened; nodes = st.nodes }
moved list st i rest opens = record {
  place = start_name;
  content = ε;
  opened = record { name = tag_of list (name_at rest); earlier = st.content } ∷ st.opened;
  nodes = suc st.nodes;
}
moved list st i rest begins = record {
  place = in_text;
  content = behind st.content (text_node i (text_at rest));
  opened = st.opened;
  nodes = suc st.nodes;
}
moved list st i rest names = record { place = end_name; content = st.content; opened = st.opened; nodes = st.nodes }
moved list st i rest closes = closed st.content st.opened st.nodes
moved list st i rest stops = st

abbrev pub move_at : State → List ℕ → Move
move_at st rest = move st.place (class_of (get_or rest 0 0))

-- the state before offset i of the text s
unfoldable pub state_at : List ℕ → List ℕ → ℕ → State
state_at list s zero = start
state_at list s (suc i) = moved list (state_at list s i) i (drop i s) (move_at (state_at list s i) (drop i s))

-- ---- the refusals at a place, each by itself: `rest` is what the text goes on with there

-- 2: a forbidden byte
unfoldable pub refusal_2 : State → List ℕ → Bool
refusal_2 st [] = false
refusal_2 st (b ∷ s) = is (class_of b) forbidden

-- 3: a byte, or the end, that the form can't go on with
unfoldable pub refusal_3 : State → List ℕ → Bool
refusal_3 st [] = not (does (to st.place) (to after))
refusal_3 st (b ∷ s) = does (move st.place (class_of b)) stops

-- 4: the name of a start tag is not listed; at its first byte
unfoldable pub refusal_4 : List ℕ → State → List ℕ → Bool
refusal_4 list st [] = false
refusal_4 list st (b ∷ s) = does (move st.place (class_of b)) opens && eqb (tag_of list (name_at (b ∷ s))) 0

-- 5: an end tag names another element than the innermost open one; at the name's first byte
unfoldable pub innermost : List Open → ℕ
innermost [] = 0
innermost (o ∷ os) = o.name

unfoldable pub refusal_5 : List ℕ → State → List ℕ → Bool
refusal_5 list st [] = false
refusal_5 list st (b ∷ s) = does (move st.place (class_of b)) names && not (eqb (tag_of list (name_at (b ∷ s))) (innermost st.opened))

-- a start tag is < and a letter
unfoldable pub start_tag : Move → List ℕ → Bool
start_tag m s = (does m (to root_open) || does m (to tag_open)) && letter_byte (get_or s 0 0)

-- 6: a start tag at depth 33; at its <
unfoldable pub refusal_6 : State → List ℕ → Bool
refusal_6 st [] = false
refusal_6 st (b ∷ s) = start_tag (move st.place (class_of b)) s && leb 32 (length st.opened)

-- 7: node 4,097; at its first byte, the < of a start tag or the first byte of a text
unfoldable pub refusal_7 : State → List ℕ → Bool
refusal_7 st [] = false
refusal_7 st (b ∷ s) = (start_tag (move st.place (class_of b)) s || does (move st.place (class_of b)) begins) && leb 4096 st.nodes

-- ---- among 2 to 7 the smallest place wins, then the smaller number

-- the smallest number that refuses a place, 0 where none does
unfoldable pub number_at : List ℕ → State → List ℕ → ℕ
number_at list st rest =
    cond (refusal_2 st rest) 2
    (cond (refusal_3 st rest) 3
    (cond (refusal_4 list st rest) 4
    (cond (refusal_5 list st rest) 5
    (cond (refusal_6 st rest) 6
    (cond (refusal_7 st rest) 7 0)))))

-- the first of the k places from i on that is refused
unfoldable pub first_refused : (ℕ → ℕ) → (k i : ℕ) → Checked (Unit {0})
first_refused number zero i = passes tt
first_refused number (suc k) i = let more = first_refused number k (suc i) in cond (eqb (number i) 0) more (refuses (number i) i)

-- The tree of a text, in the order of a name list: 1, a text over 65,535 bytes, before 2 to 7.
unfoldable pub form_of : List ℕ → List ℕ → Checked Document
form_of list s = do
  require (leb (length s) 65535) 1 65535
  first_refused (λ i. number_at list (state_at list s i) (drop i s)) (suc (length s)) 0
  passes (state_at list s (length s)).content

-- ---- the same in one pass

-- a state; an open element
abbrev pub state : Place → Document → List Open → ℕ → State
state p c os n = record { place = p; content = c; opened = os; nodes = n }

abbrev pub an_open : ℕ → Document → Open
an_open a c = record { name = a; earlier = c }

-- from a state and a place on, the first refusal, or the content at the end
unfoldable pub scan : List ℕ → State → ℕ → List ℕ → Checked Document
scan list st i [] = cond (does (to st.place) (to after)) (passes st.content) (refuses 3 i)
scan list st i (b ∷ s) =
    let next = scan list (moved list st i (b ∷ s) (move st.place (class_of b))) (suc i) s in
    cond (eqb (number_at list st (b ∷ s)) 0) next (refuses (number_at list st (b ∷ s)) i)
