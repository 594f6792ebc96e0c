-- The one pass over a text, byte by byte, by the number of each byte's class.
use mathlib.Core.Path.{◌≡◌, refl, sym, ap, ◌∙◌}
use mathlib.Core.Bool.{Bool, true, false, cond, not, ◌&&◌, ◌||◌}
use mathlib.Core.List.{List, [], ◌∷◌}
use Prim.Native.Nat.{ℕ, suc, ◌+◌, ◌≤◌, ◌<◌}
use native.Mathlib.Nat.{add-zero}
use native.Mathlib.Numerals.{add-one}
use native.Mathlib.Omega.{arith}
use native.Mathlib.Decide.{dec_lt}
use lib.Dec.{eqb, leb}
use lib.ListN.{length, get_or, drop, drop_of_length-le}
use lib.Seq.{drop-drop}
use Rattle.model.specs.Lists.{has, every, numbers}
use Rattle.model.specs.Answers.{Checked, refuses}
use Rattle.model.specs.Tree.{Document}
use Rattle.model.specs.Bytes.{Class, white, letter, digit, hyphen, less, greater, slash, other, forbidden, class_number, is, class_of}
use Rattle.model.specs.Bytes.{letter_byte}
use Rattle.model.specs.Names.{tag_of}
use Rattle.model.specs.Text.{Place, after, root_open, tag_open, Move, to, opens, begins, names, closes, stops, moves, move, move_number}
use Rattle.model.specs.Text.{does, Open, State, name_at, moved, innermost, start_tag, refusal_2, refusal_3, refusal_4, refusal_5, refusal_6}
use Rattle.model.specs.Text.{refusal_7, number_at}
use Rattle.model.proofs.Tests.{Yes}
use Rattle.model.proofs.ListLaws.{every-∈, ∈-numbers}
use Rattle.model.specs.Text.{scan}
use Rattle.model.specs.Text.{state}
use Rattle.read_runs.specs.Runs.{run, first_class}
use Rattle.read_scan.specs.Scans.{stop_number}
use Rattle.read_runs.proofs.RunLaws.{here, byte_there, class_there, class_end}

-- the move of a place for a class's number; none for the end of the text
abbrev pub move_by : Place → ℕ → Move
move_by p k = get_or (moves p) k stops

-- the number that refuses a place, where the text goes on with `rest` behind the byte there: by the class, the move, the
-- open elements, the nodes so far and the tag of the name that begins there
abbrev pub number_by : (k : ℕ) (m : Move) (os : List Open) (n tag : ℕ) (rest : List ℕ) → ℕ
number_by k m os n tag rest =
    cond (eqb k 8) 2
    (cond (does m stops) 3
    (cond (does m opens && eqb tag 0) 4
    (cond (does m names && not (eqb tag (innermost os))) 5
    (cond (((does m (to root_open) || does m (to tag_open)) && eqb (first_class rest) 1) && leb 32 (length os)) 6
    (cond ((((does m (to root_open) || does m (to tag_open)) && eqb (first_class rest) 1) || does m begins) && leb 4096 n) 7 0)))))

-- a letter is a byte of class 1
letter_first : (s : List ℕ) → letter_byte (get_or s 0 0) ≡ eqb (first_class s) 1
unfolding letter_byte is class_number class_of first_class
letter_first [] = refl
letter_first (b ∷ s) = refl

module _ (list : List ℕ) (p : Place) (c : Document) (os : List Open) (n i b : ℕ) (s : List ℕ) where
  abbrev number : ℕ
  number = number_by (class_number (class_of b)) (move_by p (class_number (class_of b))) os n (tag_of list (name_at (b ∷ s))) s

  number_is : number_at list (state p c os n) (b ∷ s) ≡ number
  unfolding number_at refusal_2 refusal_3 refusal_4 refusal_5 refusal_6 refusal_7 start_tag move is class_number
  number_is = rw (letter_first s)

  one_byte : scan list (state p c os n) i (b ∷ s) ≡ cond (eqb number 0)
      (scan list (moved list (state p c os n) i (b ∷ s) (move_by p (class_number (class_of b)))) (suc i) s) (refuses number i)
  unfolding scan move
  one_byte = rw number_is

-- ---- where the text can't go on

class_few : (c : Class) → class_number c < 9
unfolding class_number
class_few white = omega arith
class_few letter = omega arith
class_few digit = omega arith
class_few hyphen = omega arith
class_few less = omega arith
class_few greater = omega arith
class_few slash = omega arith
class_few other = omega arith
class_few forbidden = omega arith

first_class_few : (s : List ℕ) → first_class s < 10
unfolding first_class
first_class_few [] = omega arith
first_class_few (b ∷ s) = omega (arith, class_few (class_of b))

-- a place stops at every class but those
abbrev pub stops_but : Place → List ℕ → Bool
stops_but p goods = every (λ k. has goods k || does (move_by p k) stops) (numbers 10)

stops_at : (p : Place) (goods : List ℕ) → Yes (stops_but p goods) → (k : ℕ) → k < 10 → has goods k ≡ false → Yes (does (move_by p k) stops)
stops_at p goods all k few no_good = by (every-∈ (λ k. has goods k || does (move_by p k) stops) {l = numbers 10} all k (∈-numbers 10 few))
  where
    by : Yes (has goods k || does (move_by p k) stops) → Yes (does (move_by p k) stops)
    by h = rw no_good at h

-- a byte at which a place stops is refused, by 2 or 3; so is the end of the text, but after the root
stuck_by : (k : ℕ) (m : Move) (os : List Open) (n tag : ℕ) (rest : List ℕ) (next : Checked Document) (i : ℕ) → Yes (does m stops)
    → cond (eqb (number_by k m os n tag rest) 0) next (refuses (number_by k m os n tag rest) i) ≡ refuses (stop_number k) i
stuck_by k m os n tag rest next i h = rw h (by (eqb k 8))
  where
    by : (t : Bool) → cond (eqb (cond t 2 3) 0) next (refuses (cond t 2 3) i) ≡ refuses (cond t 2 3) i
    by true = refl
    by false = refl

-- after a move the state doesn't depend on the place before it
same_after : (list : List ℕ) (p q : Place) (c : Document) (os : List Open) (n i : ℕ) (s rest : List ℕ) (k tag : ℕ) (m : Move)
    → cond (eqb (number_by k m os n tag rest) 0) (scan list (moved list (state p c os n) i s m) (i + 1) rest)
    (refuses (number_by k m os n tag rest) i)
    ≡ cond (eqb (number_by k m os n tag rest) 0) (scan list (moved list (state q c os n) i s m) (i + 1) rest)
    (refuses (number_by k m os n tag rest) i)
unfolding moved does move_number
same_after list p q c os n i s rest k tag (to r) = refl
same_after list p q c os n i s rest k tag opens = refl
same_after list p q c os n i s rest k tag begins = refl
same_after list p q c os n i s rest k tag names = refl
same_after list p q c os n i s rest k tag closes = refl
same_after list p q c os n i s rest k tag stops = stuck_by k stops os n tag rest _ i refl ∙ sym (stuck_by k stops os n tag rest _ i refl)

-- ---- over a text, from a state at an offset on

abbrev pub onward : (list text : List ℕ) → State → ℕ → Checked Document
onward list text st at = scan list st at (drop at text)

module _ (list text : List ℕ) (c : Document) (os : List Open) (n : ℕ) where
  module _ (p : Place) (at k : ℕ) (class : first_class (drop at text) ≡ k) where
    -- the number that refuses a byte of class k
    abbrev number-there : ℕ
    number-there = number_by k (move_by p k) os n (tag_of list (name_at (drop at text))) (drop (at + 1) text)

    pub step : k < 9
        → onward list text (state p c os n) at
        ≡ cond (eqb number-there 0) (onward list text (moved list (state p c os n) at (drop at text) (move_by p k)) (at + 1))
        (refuses number-there at)
    step small =
        let h : at < length text = byte_there text at (omega arith) in
        let e : class_number (class_of (get_or text at 0)) ≡ k = sym (class_there text at h) ∙ class in
        rw (here text at h, ← e, add-one) (one_byte list p c os n at (get_or text at 0) (drop (suc at) text))

    small_class : at < length text → k < 9
    small_class there = omega (arith, class_there text at there, class_few (class_of (get_or text at 0)))

    -- a byte, or the end, that the form can't go on with
    module _ (goods : List ℕ) (all : Yes (stops_but p goods)) (no_good : has goods k ≡ false) where
      pub stuck_there : at < length text → onward list text (state p c os n) at ≡ refuses (stop_number k) at
      stuck_there there =
          step (small_class there)
          ∙ stuck_by k (move_by p k) os n (tag_of list (name_at (drop at text)))
          (drop (at + 1) text) _ at (stops_at p goods all k (omega (arith, first_class_few (drop at text))) no_good)

      pub stuck : does (to p) (to after) ≡ false → onward list text (state p c os n) at ≡ refuses (stop_number k) at
      unfolding scan
      stuck unfinished = by (dec_lt at (length text))
        where
          by : Dec (at < length text) → onward list text (state p c os n) at ≡ refuses (stop_number k) at
          by (yes there) = stuck_there there
          by (no out) =
              let h : length text ≤ at = omega arith in
              rw (drop_of_length-le text h, unfinished, ← class, class_end text at h)

    -- a byte that only leads to another place
    pub forward : (q : Place) → k < 9 → move_by p k ≡ to q
        → number_by k (to q) os n (tag_of list (name_at (drop at text))) (drop (at + 1) text) ≡ 0
        → onward list text (state p c os n) at ≡ onward list text (state q c os n) (at + 1)
    unfolding moved
    forward q small e free = step small ∙ rw e (rw free)

  -- two places that go on alike
  module _ (p q : Place) (at k : ℕ) (class : first_class (drop at text) ≡ k) where
    pub alike : move_by p k ≡ move_by q k → does (to p) (to after) ≡ does (to q) (to after)
        → onward list text (state p c os n) at ≡ onward list text (state q c os n) at
    unfolding scan
    alike e f = by (dec_lt at (length text))
      where
        by : Dec (at < length text) → onward list text (state p c os n) at ≡ onward list text (state q c os n) at
        by (yes h) =
            let small = small_class p at k class h in
            step p at k class small ∙ rw e (same_after list p q c os n at (drop at text) (drop (at + 1) text) k
            (tag_of list (name_at (drop at text))) (move_by q k)) ∙ sym (step q at k class small)
        by (no h) = rw (drop_of_length-le text {i = at} (omega arith), f)

  -- bytes that stay at a place
  module _ (p : Place) (test : ℕ → Bool) (stays : (b : ℕ) → Yes (test b) → move_by p (class_number (class_of b)) ≡ to p)
      (free : (b tag : ℕ) (rest : List ℕ) → Yes (test b) → number_by (class_number (class_of b)) (to p) os n tag rest ≡ 0) where
    stay : (i : ℕ) (s : List ℕ) → scan list (state p c os n) i s ≡ scan list (state p c os n) (i + run test s) (drop (run test s) s)
    unfolding run moved
    stay i [] = rw add-zero
    stay i (b ∷ s) = by (test b) refl (stay (suc i) s)
      where
        by : (t : Bool) → test b ≡ t → scan list (state p c os n) (suc i) s ≡ scan list (state p c os n) (suc i + run test s)
            (drop (run test s) s)
            → scan list (state p c os n) i (b ∷ s) ≡ scan list (state p c os n) (i + cond t (suc (run test s)) 0)
            (drop (cond t (suc (run test s)) 0) (b ∷ s))
        by true h ih =
            let j : suc i + run test s ≡ i + suc (run test s) = omega arith in
            one_byte list p c os n i b s ∙ rw (stays b h)
            (rw (free b (tag_of list (name_at (b ∷ s))) s h)
            (ih ∙ ap (λ (m : ℕ). scan list (state p c os n) m (drop (run test s) s)) j))
        by false h ih = rw add-zero

    pub run_stays : (at : ℕ) → onward list text (state p c os n) at ≡ onward list text (state p c os n) (at + run test (drop at text))
    run_stays at = stay at (drop at text) ∙ rw drop-drop
