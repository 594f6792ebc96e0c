-- What calls say of inputs too large to compute on: a table, whose rows are proved by laws.
use mathlib.Core.Path.{◌≡◌, refl, ap, ◌∙◌}
use mathlib.Core.Bool.{cond}
use mathlib.Core.List.{List, [], ◌∷◌, ◌++◌, append-nil}
use Prim.Native.Nat.{ℕ, zero, suc, ◌+◌, ◌*◌, ◌≤◌, ◌<◌}
use native.Mathlib.Omega.{arith}
use borrow.Author.Tests.{le-leb, lt-leb}
use lib.Dec.{leb}
use lib.ListN.{length, take, replicate, length-append, length-replicate, get_or-replicate}
use Rattle.model.specs.Lists.{◌∈◌, every}
use Rattle.model.specs.Answers.{Said, count, refusal, passes, refuses, ◌>>=◌, ◌>>◌, require, room_for, answer_of}
use Rattle.model.specs.Tree.{Element, text, tag, Document, ε, ◌·◌, nodes, text_symbol, tag_symbol, look, children_by, children}
use Rattle.model.specs.Tree.{tree_of}
use Rattle.model.specs.Bytes.{class_number, is, class_of, letter_byte, name_byte, is_name, same_bytes, digit_byte, kind_of_text}
use Rattle.model.specs.Names.{prepend, lines, number_from, tag_of, name_of, good_line, lines_checked, names_of}
use Rattle.model.specs.Text.{blank, Open, start, state, an_open, moves, move, place_number, move_number, does, name_at, behind}
use Rattle.model.specs.Text.{tag_node, outside, closed, moved, refusal_2, refusal_3, refusal_4, innermost, refusal_5, start_tag}
use Rattle.model.specs.Text.{refusal_6, refusal_7, number_at, form_of, scan}
use Rattle.model.specs.Written.{source_bytes, tagged, written, text_byte, solid_byte, trimmed_text, good_text, good_words}
use Rattle.model.specs.Written.{texts_checked, short_enough}
use Rattle.model.specs.Calls.{read, read_said, write, write_said}
use Rattle.model.specs.Line.{bytes}
use Rattle.model.specs.Examples.{Row, Holds, times, ab, xs, around}
use Rattle.model.specs.LargeTable.{many_nodes, table}
use Rattle.model.proofs.Examples.{All, that_is-all, ◌and◌, all-∈}
use Rattle.model.proofs.Tests.{Yes, Told, yea, nay, told}
use Rattle.model.proofs.Scan.{scan-is}

-- ---- any name list that passes, and any text

-- what write says of a tree and texts that pass, by the length of the written form: 24, 22, or that length
abbrev measured : (bytes room : ℕ) → Said
measured bytes room = cond (leb bytes 65535) (cond (leb bytes room) (count bytes) (refusal 22 bytes)) (refusal 24 bytes)

measure : (bytes : List ℕ) (room : ℕ)
    → answer_of length (short_enough bytes >>= λ l. room_for (length l) room >> passes l) ≡ measured (length bytes) room
unfolding short_enough room_for answer_of require ◌>>=◌ ◌>>◌
measure bytes room = go (told (leb (length bytes) 65535)) (told (leb (length bytes) room))
  where
    go : Told (leb (length bytes) 65535) → Told (leb (length bytes) room)
        → answer_of length (short_enough bytes >>= λ l. room_for (length l) room >> passes l) ≡ measured (length bytes) room
    go (nay n) _ = rw n
    go (yea y) (yea z) = rw (y, z)
    go (yea y) (nay n) = rw (y, n)

module _ (list s : List ℕ) {g : ℕ} (names : names_of list ≡ passes g) where
  -- 1: a text, or a source, over 65,535 bytes
  read-long : (tree : List ℕ) → 65535 < length s → read_said list s tree ≡ refusal 1 65535
  unfolding read_said read form_of answer_of require ◌>>=◌ ◌>>◌
  read-long tree h = rw (names, lt-leb (length s) 65535 h)

  write-long : (tree out : List ℕ) → 65535 < length s → write_said list s tree out ≡ refusal 1 65535
  unfolding write_said write answer_of require ◌>>=◌ ◌>>◌
  write-long tree out h = rw (names, lt-leb (length s) 65535 h)

  -- 2 to 7: what one pass over the text finds
  read_scanned : (tree : List ℕ) {n i : ℕ} → length s ≤ 65535 → scan list start 0 s ≡ refuses n i → read_said list s tree ≡ refusal n i
  unfolding read_said read answer_of ◌>>=◌
  read_scanned tree h pass = rw (names, scan-is list s, le-leb (length s) 65535 h, pass)

  -- 11: text words that are wrong, of a tree that passes
  write-texts : (tree out : List ℕ) {e : Element} {n i : ℕ} → length s ≤ 65535 → tree_of g tree ≡ passes e
      → texts_checked s 0 (nodes e) ≡ refuses n i → write_said list s tree out ≡ refusal n i
  unfolding write_said write answer_of require ◌>>=◌ ◌>>◌
  write-texts tree out h shape texts = rw (names, le-leb (length s) 65535 h, shape, texts)

  -- 24 and 22: a tree and texts that pass
  write-measured : (tree out : List ℕ) {e : Element} → length s ≤ 65535 → tree_of g tree ≡ passes e
      → texts_checked s 0 (nodes e) ≡ passes tt → write_said list s tree out ≡ measured (length (written list s e)) (length out)
  unfolding write_said write require ◌>>=◌ ◌>>◌
  write-measured tree out {e} h shape texts = rw (names, le-leb (length s) 65535 h, shape, texts) (measure (written list s e) (length out))

-- ---- many nodes, and elements deep inside others

ab_passes : names_of ab ≡ passes 2
unfolding ab bytes class_number is class_of every letter_byte name_byte is_name same_bytes prepend lines number_from good_line lines_checked
    names_of
ab_passes = refl

length-times : (n : ℕ) (ws : List ℕ) → length (times n ws) ≡ n * length ws
unfolding times
length-times zero ws = omega arith
length-times (suc n) ws = omega (arith, length-append ws (times n ws), length-times n ws)

length-many : (n : ℕ) → length (many_nodes n) ≡ 4 * n + 5
unfolding many_nodes bytes
length-many n = omega (arith, length-append (times n (bytes "<a/>")) (bytes "<a"), length-times n (bytes "<a/>"))

-- the open root; the place four bytes on
root : List Open
root = an_open 1 ε ∷ []

abbrev past : ℕ → ℕ
past i = suc (suc (suc (suc i)))

-- What one pass does: at the root; at an empty element, where there are fewer than 4,096 nodes; at a start tag where there are as many;
-- at 32 start tags one inside another, and at one more.
record Scans : Type 0 where
  begun : (rest : List ℕ) → scan ab start 0 (bytes "<a>" ++ rest) ≡ scan ab (state blank ε root 1) 3 rest
  one_more : (n i : ℕ) (c : Document) (rest : List ℕ) → n < 4096
      → scan ab (state blank c root n) i (bytes "<a/>" ++ rest) ≡ scan ab (state blank (behind c (tag_node 1 ε)) root (suc n)) (past i) rest
  full : (n i : ℕ) (c : Document) → 4096 ≤ n → scan ab (state blank c root n) i (bytes "<a") ≡ refuses 7 i
  deep : scan ab start 0 (times 32 (bytes "<a>")) ≡ refuses 3 96
  too_deep : scan ab start 0 (times 32 (bytes "<a>") ++ bytes "<c>") ≡ refuses 6 96

scans : Scans
unfolding root ab bytes class_number is class_of letter_byte name_byte same_bytes prepend lines number_from tag_of moves move place_number
    move_number does name_at behind tag_node outside closed moved refusal_2 refusal_3 refusal_4 innermost refusal_5 start_tag refusal_6
    refusal_7 number_at scan times
scans = record {
  begun = λ rest. refl;
  one_more = λ n i c rest h. rw (lt-leb 4096 n h) refl;
  full = λ n i c h. rw (le-leb 4096 n h) refl;
  deep = refl;
  too_deep = refl;
}

-- the start tag after n nodes and k more, 4,096 in all, is refused
one_too_many : (k n i : ℕ) (c : Document) → n + k ≡ 4096
    → scan ab (state blank c root n) i (times k (bytes "<a/>") ++ bytes "<a") ≡ refuses 7 (i + 4 * k)
unfolding times bytes
one_too_many zero n i c h = let e : i ≡ i + 4 * 0 = omega arith in scans.full n i c (omega arith) ∙ ap (refuses 7) e
one_too_many (suc k) n i c h =
    let e : past i + 4 * k ≡ i + 4 * suc k = omega arith in
    scans.one_more n i c (times k (bytes "<a/>") ++ bytes "<a") (omega arith)
    ∙ one_too_many k (suc n) (past i) (behind c (tag_node 1 ε)) (omega arith) ∙ ap (refuses 7) e

-- so node 4,097 is refused, at its <
many-refused : (tree : List ℕ) → read_said ab (many_nodes 4095) tree ≡ refusal 7 16383
unfolding many_nodes
many-refused tree =
    read_scanned ab (many_nodes 4095) ab_passes tree (omega (arith, length-many 4095))
    (scans.begun (times 4095 (bytes "<a/>") ++ bytes "<a") ∙ one_too_many 4095 1 3 ε refl)

-- ---- a long text

-- an element with a text of n bytes at the source's start
around_x : ℕ → Element
around_x n = tag 1 (record { start = 0; bytes = 0 }) (text 2 (record { start = 0; bytes = n }) · ε)

around_passes : (n : ℕ) → tree_of 2 (around n) ≡ passes (around_x n)
unfolding around around_x tree_of children children_by look text_symbol tag_symbol require ◌>>=◌ ◌>>◌
around_passes n = refl

length-xs : (n : ℕ) → length (xs n) ≡ n
unfolding xs
length-xs n = length-replicate {A = ℕ} n 120

-- the text is trimmed, of kind 2, and made of bytes that a text may hold
take-xs : (n : ℕ) → take n (xs n) ≡ xs n
unfolding xs
take-xs zero = refl
take-xs (suc n) = ap (λ l. 120 ∷ l) (take-xs n)

text_xs : (n : ℕ) → Yes (every text_byte (xs n))
unfolding xs every text_byte is class_number class_of
text_xs zero = refl
text_xs (suc n) = text_xs n

trimmed-xs : (n : ℕ) → Yes (trimmed_text (xs (suc n)))
unfolding xs trimmed_text solid_byte is class_number class_of
trimmed-xs n = rw (length-replicate {A = ℕ} n 120, get_or-replicate {A = ℕ} (suc n) n 120 0 (omega arith)) (text_xs (suc n))

kind-xs : (n : ℕ) → kind_of_text (xs (suc n)) ≡ 2
unfolding xs kind_of_text every digit_byte is class_number class_of
kind-xs n = refl

around-texts : (n : ℕ) → texts_checked (xs (suc n)) 0 (nodes (around_x (suc n))) ≡ passes tt
unfolding around_x nodes texts_checked good_words good_text source_bytes xs
around-texts n =
    rw (le-leb (0 + suc n) (length (xs (suc n))) (omega (arith, length-replicate {A = ℕ} n 120)))
    (rw (take-xs (suc n), trimmed-xs n, kind-xs n))

-- the written form has seven bytes more
around-length : (n : ℕ) → length (written ab (xs n) (around_x n)) ≡ n + 7
unfolding around_x written tagged source_bytes ab bytes name_of lines prepend xs
around-length n =
    rw (take-xs n, append-nil (xs n)) (omega (arith, length-append (xs n) (60 ∷ 47 ∷ 97 ∷ 62 ∷ []), length-replicate {A = ℕ} n 120))

around-said : (n : ℕ) (out : List ℕ) → suc n ≤ 65535 → write_said ab (xs (suc n)) (around (suc n)) out ≡ measured (suc n + 7) (length out)
unfolding xs
around-said n out h =
    write-measured ab (xs (suc n)) ab_passes (around (suc n)) out (omega (arith, length-replicate {A = ℕ} n 120)) (around_passes (suc n))
    (around-texts n) ∙ ap (λ (k : ℕ). measured k (length out)) (around-length (suc n))

-- where the tag has a text word that isn't 0, 11 comes first
tag_refused : (n : ℕ) (out : List ℕ) → n ≤ 65535 → write_said ab (xs n) (1 ∷ 2 ∷ 0 ∷ 1 ∷ 66 ∷ 1 ∷ 0 ∷ n ∷ []) out ≡ refusal 11 0
unfolding tree_of children children_by look text_symbol tag_symbol require ◌>>=◌ ◌>>◌ nodes texts_checked good_words
tag_refused n out h = write-texts ab (xs n) ab_passes (1 ∷ 2 ∷ 0 ∷ 1 ∷ 66 ∷ 1 ∷ 0 ∷ n ∷ []) out (omega (arith, length-xs n)) refl refl

-- ---- the table

by_laws : All Holds table
unfolding table bytes
by_laws =
    read-long ab (replicate 65536 38) ab_passes [] (omega (arith, length-replicate {A = ℕ} 65536 38))
    and write-long ab (xs 65536) ab_passes [] [] (omega (arith, length-xs 65536))
    and read_scanned ab (times 32 (bytes "<a>")) ab_passes [] (omega (arith, length-times 32 (bytes "<a>"))) scans.deep
    and read_scanned ab (times 32 (bytes "<a>") ++ bytes "<c>") ab_passes []
    (omega (arith, length-append (times 32 (bytes "<a>")) (bytes "<c>"), length-times 32 (bytes "<a>"))) scans.too_deep
    and many-refused []
    and around-said 65527 [] (omega arith)
    and around-said 65528 [] (omega arith)
    and tag_refused 65529 [] (omega arith)
    and that_is-all

pub large_hold : (r : Row) → r ∈ table → Holds r
large_hold = all-∈ by_laws
