-- The one pass over a token at a time: white, start tags, end tags and texts, and what refuses each.
use mathlib.Core.Path.{◌≡◌, refl, sym, ap, ◌∙◌}
use mathlib.Core.Logic.{◌≢◌, ◌⊎◌, inl, inr}
use mathlib.Core.Bool.{true, false, cond, not, ◌&&◌, ◌||◌}
use mathlib.Core.List.{List, [], ◌∷◌}
use Prim.Native.Nat.{ℕ, zero, suc, ◌+◌, ◌≤◌, ◌<◌}
use native.Mathlib.Omega.{arith}
use lib.Dec.{eqb, leb}
use lib.ListN.{length, get_or, drop, drop_of_length-le}
use lib.Seq.{drop-drop}
use borrow.Author.Tests.{eq-eqb, ne_eqb, le-leb, lt-leb}
use Rattle.model.specs.Lists.{has, every, from}
use Rattle.model.specs.Answers.{passes, refuses}
use Rattle.model.specs.Tree.{Document, ε}
use Rattle.model.specs.Bytes.{Class, white, letter, digit, hyphen, less, greater, slash, other, forbidden, class_number, is, class_of}
use Rattle.model.specs.Bytes.{within}
use Rattle.model.specs.Names.{tag_of}
use Rattle.model.specs.Text.{Place, before, root_open, blank, in_text, tag_open, start_name, start_gap, start_slash, end_open, end_name}
use Rattle.model.specs.Text.{end_gap, after, to, opens, begins, moves, move_number, place_number, does, Open, name_at, text_at, behind}
use Rattle.model.specs.Text.{text_node, closed, moved, innermost}
use Rattle.model.specs.Written.{text_byte}
use Rattle.model.proofs.Tests.{Yes, never, between_inv}
use Rattle.model.proofs.ByteLaws.{text_cases}
use Rattle.model.specs.Text.{scan}
use Rattle.model.specs.Text.{state, an_open}
use Rattle.read_runs.specs.Runs.{run, class_within, first_class}
use Rattle.read_scan.specs.Scans.{stop_number}
use Rattle.read_runs.proofs.RunLaws.{run_left, run_on, byte_there, class_there}
use Rattle.read_pass.proofs.Steps.{move_by, number_by, onward, step, stuck, stuck_there, forward, alike, run_stays}

-- ---- classes of a run's bytes

white_class : (b : ℕ) → Yes (class_within 0 0 b) → class_number (class_of b) ≡ 0
unfolding class_within
white_class b h = let (u, v) = between_inv 0 0 (class_number (class_of b)) h in omega arith

name_classes : (P : ℕ → Type 0) → P 1 → P 2 → P 3 → (b : ℕ) → Yes (class_within 1 3 b) → P (class_number (class_of b))
unfolding class_within class_number
name_classes P p₁ p₂ p₃ b h = by (class_of b) h
  where
    by : (c : Class) → Yes (within 1 3 (class_number c)) → P (class_number c)
    by white h = never h
    by letter h = p₁
    by digit h = p₂
    by hyphen h = p₃
    by less h = never h
    by greater h = never h
    by slash h = never h
    by other h = never h
    by forbidden h = never h

-- a byte of content that is neither white, < or >, nor forbidden
solid_classes : (P : ℕ → Type 0) → P 1 → P 2 → P 3 → P 6 → P 7 → (k : ℕ) → k ≢ 0 → k ≢ 4 → k ≢ 5 → k < 8 → P k
solid_classes P p₁ p₂ p₃ p₆ p₇ zero w l g h = absurd (w refl)
solid_classes P p₁ p₂ p₃ p₆ p₇ (suc zero) w l g h = p₁
solid_classes P p₁ p₂ p₃ p₆ p₇ (suc (suc zero)) w l g h = p₂
solid_classes P p₁ p₂ p₃ p₆ p₇ (suc (suc (suc zero))) w l g h = p₃
solid_classes P p₁ p₂ p₃ p₆ p₇ (suc (suc (suc (suc zero)))) w l g h = absurd (l refl)
solid_classes P p₁ p₂ p₃ p₆ p₇ (suc (suc (suc (suc (suc zero))))) w l g h = absurd (g refl)
solid_classes P p₁ p₂ p₃ p₆ p₇ (suc (suc (suc (suc (suc (suc zero)))))) w l g h = p₆
solid_classes P p₁ p₂ p₃ p₆ p₇ (suc (suc (suc (suc (suc (suc (suc zero))))))) w l g h = p₇
solid_classes P p₁ p₂ p₃ p₆ p₇ (suc (suc (suc (suc (suc (suc (suc (suc k)))))))) w l g h = absurd (omega arith)

-- what follows a name, and a text
no_name : (P : ℕ → Type 0) → P 0 → P 4 → P 5 → P 6 → P 7 → P 8 → (b : ℕ) → class_within 1 3 b ≡ false → P (class_number (class_of b))
unfolding class_within class_number
no_name P p₀ p₄ p₅ p₆ p₇ p₈ b h = by (class_of b) h
  where
    by : (c : Class) → within 1 3 (class_number c) ≡ false → P (class_number c)
    by white h = p₀
    by letter h = never (sym h)
    by digit h = never (sym h)
    by hyphen h = never (sym h)
    by less h = p₄
    by greater h = p₅
    by slash h = p₆
    by other h = p₇
    by forbidden h = p₈

no_text : (P : ℕ → Type 0) → P 4 → P 5 → P 8 → (b : ℕ) → text_byte b ≡ false → P (class_number (class_of b))
unfolding text_byte is class_number
no_text P p₄ p₅ p₈ b h = by (class_of b) h
  where
    by : (c : Class) → (not (is c less) && (not (is c greater) && not (is c forbidden))) ≡ false → P (class_number c)
    by white h = never (sym h)
    by letter h = never (sym h)
    by digit h = never (sym h)
    by hyphen h = never (sym h)
    by less h = p₄
    by greater h = p₅
    by slash h = never (sym h)
    by other h = never (sym h)
    by forbidden h = p₈

-- ---- places

-- white stays at a place
pub record Waits (p : Place) : Type 0 where
  stays : move_by p 0 ≡ to p
  free : (os : List Open) (n tag : ℕ) (rest : List ℕ) → number_by 0 (to p) os n tag rest ≡ 0

pub before_waits : Waits before
unfolding moves does move_number place_number
before_waits = record { stays = refl; free = λ os n tag rest. refl }

pub blank_waits : Waits blank
unfolding moves does move_number place_number
blank_waits = record { stays = refl; free = λ os n tag rest. refl }

pub start_gap_waits : Waits start_gap
unfolding moves does move_number place_number
start_gap_waits = record { stays = refl; free = λ os n tag rest. refl }

pub end_gap_waits : Waits end_gap
unfolding moves does move_number place_number
end_gap_waits = record { stays = refl; free = λ os n tag rest. refl }

pub after_waits : Waits after
unfolding moves does move_number place_number
after_waits = record { stays = refl; free = λ os n tag rest. refl }

-- A < leads from a place to another, where a letter opens an element. With a letter behind it, it wants room for one.
pub record Leads (p q : Place) : Type 0 where
  less_moves : move_by p 4 ≡ to q
  less_number : (os : List Open) (n tag : ℕ) (rest : List ℕ)
      → number_by 4 (to q) os n tag rest
      ≡ cond (eqb (first_class rest) 1 && leb 32 (length os)) 6 (cond ((eqb (first_class rest) 1 || false) && leb 4096 n) 7 0)
  letter_opens : move_by q 1 ≡ opens

pub at-root : Leads before root_open
unfolding moves does move_number place_number
at-root = record { less_moves = refl; less_number = λ os n tag rest. refl; letter_opens = refl }

pub in_content : Leads blank tag_open
unfolding moves does move_number place_number
in_content = record { less_moves = refl; less_number = λ os n tag rest. refl; letter_opens = refl }

-- a name stays at a place, which goes on as the place behind the name does where the name has ended
record Names (p q : Place) : Type 0 where
  stays : (b : ℕ) → Yes (class_within 1 3 b) → move_by p (class_number (class_of b)) ≡ to p
  free : (os : List Open) (n b tag : ℕ) (rest : List ℕ) → Yes (class_within 1 3 b) → number_by (class_number (class_of b))
      (to p) os n tag rest ≡ 0
  ends : (s : List ℕ) → move_by p (first_class (drop (run (class_within 1 3) s) s)) ≡ move_by q
      (first_class (drop (run (class_within 1 3) s) s))
  inside : does (to p) (to after) ≡ does (to q) (to after)

start-names : Names start_name start_gap
unfolding moves does move_number place_number
start-names = record {
  stays = name_classes (λ k. move_by start_name k ≡ to start_name) refl refl refl;
  free = λ os n b tag rest. name_classes (λ k. number_by k (to start_name) os n tag rest ≡ 0) refl refl refl b;
  ends = run_left (class_within 1 3) (λ k. move_by start_name k ≡ move_by start_gap k)
      (no_name (λ k. move_by start_name k ≡ move_by start_gap k) refl refl refl refl refl refl) refl;
  inside = refl;
}

end-names : Names end_name end_gap
unfolding moves does move_number place_number
end-names = record {
  stays = name_classes (λ k. move_by end_name k ≡ to end_name) refl refl refl;
  free = λ os n b tag rest. name_classes (λ k. number_by k (to end_name) os n tag rest ≡ 0) refl refl refl b;
  ends = run_left (class_within 1 3) (λ k. move_by end_name k ≡ move_by end_gap k)
      (no_name (λ k. move_by end_name k ≡ move_by end_gap k) refl refl refl refl refl refl) refl;
  inside = refl;
}

-- a letter begins a name
letter_name : (b : ℕ) → class_number (class_of b) ≡ 1 → Yes (class_within 1 3 b)
unfolding class_within
letter_name b e = rw e

-- the offset behind the name that begins at an offset
abbrev pub name-end : (text : List ℕ) (at : ℕ) → ℕ
name-end text at = at + run (class_within 1 3) (drop at text)

-- ---- names and white

module _ (list text : List ℕ) (c : Document) (os : List Open) (n : ℕ) where
  -- past a name's first byte, up to its end
  name-run : {p q : Place} → Names p q → (at : ℕ) → first_class (drop at text) ≡ 1 → onward list text (state p c os n)
      (at + 1) ≡ onward list text (state q c os n) (name-end text at)
  name-run {p} {q} names at e =
      let there : at < length text = byte_there text at (omega arith) in
      let one_more = run_on (class_within 1 3) text at there (letter_name (get_or text at 0) (sym (class_there text at there) ∙ e)) in
      let end : at + 1 + run (class_within 1 3) (drop (at + 1) text) ≡ name-end text at = omega (arith, one_more) in
      run_stays list text c os n p (class_within 1 3) names.stays (names.free os n) (at + 1)
      ∙ ap (λ (i : ℕ). onward list text (state p c os n) i) end
      ∙ alike list text c os n p q (name-end text at) (first_class (drop (name-end text at) text)) refl
      (rw drop-drop at (names.ends (drop at text))) names.inside

  pub white_run : (p : Place) → Waits p → (at : ℕ) → onward list text (state p c os n) at ≡ onward list text (state p c os n)
      (at + run (class_within 0 0) (drop at text))
  white_run p w = run_stays list text c os n p (class_within 0 0) (λ b h. rw (white_class b h) w.stays)
      (λ b tag rest h. rw (white_class b h) (w.free os n tag rest))

-- ---- start tags

module _ (list text : List ℕ) (c : Document) (os : List Open) (n : ℕ) where
  module _ {p q : Place} (leads : Leads p q) (at : ℕ) (opening : first_class (drop at text) ≡ 4) where
    -- the number at the <
    less_step : onward list text (state p c os n) at
        ≡ cond (eqb (cond (eqb (first_class (drop (at + 1) text)) 1 && leb 32 (length os)) 6
        (cond ((eqb (first_class (drop (at + 1) text)) 1 || false) && leb 4096 n) 7 0)) 0) (onward list text (state q c os n) (at + 1))
        (refuses (cond (eqb (first_class (drop (at + 1) text)) 1 && leb 32 (length os)) 6
        (cond ((eqb (first_class (drop (at + 1) text)) 1 || false) && leb 4096 n) 7 0)) at)
    unfolding moved
    less_step = step list text c os n p at 4 opening (omega arith) ∙ rw leads.less_moves
        (rw (leads.less_number os n (tag_of list (name_at (drop at text))) (drop (at + 1) text)))

    -- no letter behind it
    pub less_on : first_class (drop (at + 1) text) ≢ 1 → onward list text (state p c os n) at ≡ onward list text (state q c os n) (at + 1)
    less_on h = less_step ∙ rw (ne_eqb _ _ h)

    module _ (letter_next : first_class (drop (at + 1) text) ≡ 1) where
      -- too deep, one node too many, or a name that is not listed
      pub too_deep : 32 ≤ length os → onward list text (state p c os n) at ≡ refuses 6 at
      too_deep h = less_step ∙ rw (letter_next, le-leb _ _ h)

      pub too_many : length os < 32 → 4096 ≤ n → onward list text (state p c os n) at ≡ refuses 7 at
      too_many h k = less_step ∙ rw (letter_next, lt-leb _ _ h, le-leb _ _ k)

      module _ (deep : length os < 32) (few : n < 4096) where
        starts : onward list text (state p c os n) at ≡ onward list text (state q c os n) (at + 1)
        starts = less_step ∙ rw (letter_next, lt-leb _ _ deep, lt-leb _ _ few)

        pub unknown : tag_of list (name_at (drop (at + 1) text)) ≡ 0 → onward list text (state p c os n) at ≡ refuses 4 (at + 1)
        unfolding does move_number
        unknown e = starts ∙ step list text c os n q (at + 1) 1 letter_next (omega arith) ∙ rw leads.letter_opens (rw e)

        -- an element opens
        module _ (listed : tag_of list (name_at (drop (at + 1) text)) ≢ 0) where
          opens_there : onward list text (state p c os n) at ≡ onward list text
              (state start_name ε (an_open (tag_of list (name_at (drop (at + 1) text))) c ∷ os) (suc n)) (at + 1 + 1)
          unfolding does move_number place_number moved
          opens_there = starts ∙ step list text c os n q (at + 1) 1 letter_next (omega arith) ∙ rw leads.letter_opens
              (rw (ne_eqb _ _ listed))

          pub opened : onward list text (state p c os n) at ≡ onward list text
              (state start_gap ε (an_open (tag_of list (name_at (drop (at + 1) text))) c ∷ os) (suc n)) (name-end text (at + 1))
          opened = opens_there ∙ name-run list text ε (an_open (tag_of list (name_at (drop (at + 1) text))) c ∷ os) (suc n) start-names
              (at + 1) letter_next

-- ---- the ends of tags

module _ (list text : List ℕ) (c : Document) (os : List Open) (n at : ℕ) where
  -- the > of a start tag, and of an empty one
  pub start-ends : first_class (drop at text) ≡ 5 → onward list text (state start_gap c os n) at ≡ onward list text (state blank c os n)
      (at + 1)
  unfolding moves does move_number place_number
  start-ends e = forward list text c os n start_gap at 5 e blank (omega arith) refl refl

  pub slash_on : first_class (drop at text) ≡ 6 → onward list text (state start_gap c os n) at ≡ onward list text (state start_slash c os n)
      (at + 1)
  unfolding moves does move_number place_number
  slash_on e = forward list text c os n start_gap at 6 e start_slash (omega arith) refl refl

  pub empty_ends : first_class (drop at text) ≡ 5 → onward list text (state start_slash c os n) at ≡ onward list text (closed c os n)
      (at + 1)
  unfolding moves does move_number place_number moved
  empty_ends e = step list text c os n start_slash at 5 e (omega arith)

  -- the </ and the > of an end tag
  pub end_on : first_class (drop at text) ≡ 4 → first_class (drop (at + 1) text) ≡ 6 → onward list text
      (state blank c os n) at ≡ onward list text (state end_open c os n) (at + 2)
  unfolding moves does move_number place_number
  end_on e f =
      let two : at + 1 + 1 ≡ at + 2 = omega arith in
      less_on list text c os n in_content at e (λ g. absurd (omega arith)) ∙ forward list text c os n tag_open (at + 1) 6 f end_open
      (omega arith) refl refl
      ∙ ap (λ (i : ℕ). onward list text (state end_open c os n) i) two

  pub end-ends : first_class (drop at text) ≡ 5 → onward list text (state end_gap c os n) at ≡ onward list text (closed c os n) (at + 1)
  unfolding moves does move_number place_number moved
  end-ends e = step list text c os n end_gap at 5 e (omega arith)

  -- the name of an end tag: another's, or the innermost open element's
  module _ (letter_there : first_class (drop at text) ≡ 1) where
    pub other_name : tag_of list (name_at (drop at text)) ≢ innermost os → onward list text (state end_open c os n) at ≡ refuses 5 at
    unfolding moves does move_number place_number
    other_name h = step list text c os n end_open at 1 letter_there (omega arith) ∙ rw (ne_eqb _ _ h)

    pub own_name : tag_of list (name_at (drop at text)) ≡ innermost os → onward list text (state end_open c os n) at ≡ onward list text
        (state end_gap c os n) (name-end text at)
    unfolding moves does move_number place_number moved
    own_name h = step list text c os n end_open at 1 letter_there (omega arith) ∙ rw (eq-eqb _ _ h)
        (name-run list text c os n end-names at letter_there)

-- ---- texts

-- the offset behind the text that begins at an offset, white at its end included
abbrev pub text_end : (text : List ℕ) (at : ℕ) → ℕ
text_end text at = at + run text_byte (drop at text)

-- a text's bytes stay in the text
text_stays : (b : ℕ) → Yes (text_byte b) → move_by in_text (class_number (class_of b)) ≡ to in_text
unfolding moves class_number
text_stays = text_cases (λ k. move_by in_text (class_number k) ≡ to in_text) refl refl refl refl refl refl

text_free : (os : List Open) (n b tag : ℕ) (rest : List ℕ) → Yes (text_byte b) → number_by (class_number (class_of b))
    (to in_text) os n tag rest ≡ 0
unfolding class_number does move_number place_number
text_free os n b tag rest = text_cases (λ k. number_by (class_number k) (to in_text) os n tag rest ≡ 0) refl refl refl refl refl refl b

-- behind a text is none of its bytes
text_left : (s : List ℕ) → has (0 ∷ 1 ∷ 2 ∷ 3 ∷ 6 ∷ 7 ∷ []) (first_class (drop (run text_byte s) s)) ≡ false
unfolding has
text_left = run_left text_byte (λ k. has (0 ∷ 1 ∷ 2 ∷ 3 ∷ 6 ∷ 7 ∷ []) k ≡ false)
    (no_text (λ k. has (0 ∷ 1 ∷ 2 ∷ 3 ∷ 6 ∷ 7 ∷ []) k ≡ false) refl refl refl) refl

solid_text : (b k : ℕ) → class_number (class_of b) ≡ k → k ≢ 0 → k ≢ 4 → k ≢ 5 → k < 8 → Yes (text_byte b)
unfolding text_byte is class_number
solid_text b k e w l g h = rw e
    (solid_classes (λ k. (not (eqb k 4) && (not (eqb k 5) && not (eqb k 8))) ≡ true) refl refl refl refl refl k w l g h)

module _ (list text : List ℕ) (c : Document) (os : List Open) (n at k : ℕ)
    (class : first_class (drop at text) ≡ k) (no_white : k ≢ 0) (no_less : k ≢ 4) (no_greater : k ≢ 5) (allowed : k < 8) where
  begins_text : move_by blank k ≡ begins
  unfolding moves
  begins_text = solid_classes (λ k. move_by blank k ≡ begins) refl refl refl refl refl k no_white no_less no_greater allowed

  not_forbidden : eqb k 8 ≡ false
  not_forbidden = ne_eqb k 8 (λ e. absurd (omega arith))

  -- one node too many
  pub text_too_many : 4096 ≤ n → onward list text (state blank c os n) at ≡ refuses 7 at
  unfolding does move_number place_number
  text_too_many h = step list text c os n blank at k class (omega arith) ∙ rw (begins_text, not_forbidden, le-leb _ _ h)

  module _ (few : n < 4096) where
    -- the content with the text
    abbrev with_text : Document
    with_text = behind c (text_node at (text_at (drop at text)))

    text_begins : onward list text (state blank c os n) at ≡ onward list text (state in_text with_text os (suc n)) (at + 1)
    unfolding does move_number place_number moved
    text_begins = step list text c os n blank at k class (omega arith) ∙ rw (begins_text, not_forbidden, lt-leb _ _ few)

    in_text_run : onward list text (state blank c os n) at ≡ onward list text (state in_text with_text os (suc n)) (text_end text at)
    in_text_run =
        let there : at < length text = byte_there text at (omega arith) in
        let first : Yes (text_byte (get_or text at 0)) = solid_text (get_or text at 0) k
        (sym (class_there text at there) ∙ class) no_white no_less no_greater allowed in
        let end : at + 1 + run text_byte (drop (at + 1) text) ≡ text_end text at = omega (arith, run_on text_byte text at there first) in
        text_begins ∙ run_stays list text with_text os (suc n) in_text text_byte text_stays (text_free os (suc n)) (at + 1)
        ∙ ap (λ (i : ℕ). onward list text (state in_text with_text os (suc n)) i) end

    -- a text is followed by <, or the form can't go on
    pub text_ends : first_class (drop (text_end text at) text) ≡ 4 → onward list text (state blank c os n) at ≡ onward list text
        (state blank with_text os (suc n)) (text_end text at)
    unfolding moves does move_number place_number
    text_ends e = in_text_run ∙ alike list text with_text os (suc n) in_text blank (text_end text at) 4 e refl refl

    pub text_broken : (j : ℕ) → first_class (drop (text_end text at) text) ≡ j → j ≢ 4 → onward list text (state blank c os n) at ≡ refuses
        (stop_number j) (text_end text at)
    unfolding moves does move_number place_number has every from
    text_broken j e h =
        in_text_run
        ∙ stuck list text with_text os (suc n) in_text (text_end text at) j e (4 ∷ 0 ∷ 1 ∷ 2 ∷ 3 ∷ 6 ∷ 7 ∷ []) refl
        (rw (ne_eqb j 4 h) (rw (drop-drop, e) at (text_left (drop at text)))) refl

-- ---- where the form can't go on

-- behind a run of white is no white
no_white_class : (b : ℕ) → class_within 0 0 b ≡ false → class_number (class_of b) ≢ 0
unfolding class_within
no_white_class b h e = never (sym h ∙ rw e)

pub white_left : (s : List ℕ) → first_class (drop (run (class_within 0 0) s) s) ≢ 0
white_left = run_left (class_within 0 0) (λ k. k ≢ 0) no_white_class (omega arith)

module _ (list text : List ℕ) (c : Document) (os : List Open) (n at k : ℕ) (class : first_class (drop at text) ≡ k) where
  pub stuck_before : k ≢ 0 → k ≢ 4 → onward list text (state before c os n) at ≡ refuses (stop_number k) at
  unfolding moves does move_number place_number has every from
  stuck_before a b = stuck list text c os n before at k class (0 ∷ 4 ∷ []) refl (rw (ne_eqb k 0 a, ne_eqb k 4 b)) refl

  pub stuck_root_open : k ≢ 1 → onward list text (state root_open c os n) at ≡ refuses (stop_number k) at
  unfolding moves does move_number place_number has every from
  stuck_root_open a = stuck list text c os n root_open at k class (1 ∷ []) refl (rw (ne_eqb k 1 a)) refl

  pub stuck_tag_open : k ≢ 1 → k ≢ 6 → onward list text (state tag_open c os n) at ≡ refuses (stop_number k) at
  unfolding moves does move_number place_number has every from
  stuck_tag_open a b = stuck list text c os n tag_open at k class (1 ∷ 6 ∷ []) refl (rw (ne_eqb k 1 a, ne_eqb k 6 b)) refl

  pub stuck_start_gap : k ≢ 0 → k ≢ 5 → k ≢ 6 → onward list text (state start_gap c os n) at ≡ refuses (stop_number k) at
  unfolding moves does move_number place_number has every from
  stuck_start_gap a b d = stuck list text c os n start_gap at k class (0 ∷ 5 ∷ 6 ∷ []) refl
      (rw (ne_eqb k 0 a, ne_eqb k 5 b, ne_eqb k 6 d)) refl

  pub stuck_start_slash : k ≢ 5 → onward list text (state start_slash c os n) at ≡ refuses (stop_number k) at
  unfolding moves does move_number place_number has every from
  stuck_start_slash a = stuck list text c os n start_slash at k class (5 ∷ []) refl (rw (ne_eqb k 5 a)) refl

  pub stuck_end_open : k ≢ 1 → onward list text (state end_open c os n) at ≡ refuses (stop_number k) at
  unfolding moves does move_number place_number has every from
  stuck_end_open a = stuck list text c os n end_open at k class (1 ∷ []) refl (rw (ne_eqb k 1 a)) refl

  pub stuck_end_gap : k ≢ 0 → k ≢ 5 → onward list text (state end_gap c os n) at ≡ refuses (stop_number k) at
  unfolding moves does move_number place_number has every from
  stuck_end_gap a b = stuck list text c os n end_gap at k class (0 ∷ 5 ∷ []) refl (rw (ne_eqb k 0 a, ne_eqb k 5 b)) refl

  -- in content, only > and what is forbidden, and the end
  pub stuck_blank : (k ≡ 5) ⊎ (8 ≤ k) → onward list text (state blank c os n) at ≡ refuses (stop_number k) at
  unfolding moves does move_number place_number has every from
  stuck_blank h = stuck list text c os n blank at k class (0 ∷ 1 ∷ 2 ∷ 3 ∷ 4 ∷ 6 ∷ 7 ∷ []) refl (by h) refl
    where
      by : (k ≡ 5) ⊎ (8 ≤ k) → has (0 ∷ 1 ∷ 2 ∷ 3 ∷ 4 ∷ 6 ∷ 7 ∷ []) k ≡ false
      by (inl e) = rw e
      by (inr e) = rw (
        ne_eqb k 0 (omega arith),
        ne_eqb k 1 (omega arith),
        ne_eqb k 2 (omega arith),
        ne_eqb k 3 (omega arith),
        ne_eqb k 4 (omega arith),
        ne_eqb k 6 (omega arith),
        ne_eqb k 7 (omega arith),
      )

  -- after the root, every byte that is not white
  pub stuck_after : at < length text → k ≢ 0 → onward list text (state after c os n) at ≡ refuses (stop_number k) at
  unfolding moves does move_number place_number has every from
  stuck_after there a = stuck_there list text c os n after at k class (0 ∷ []) refl (rw (ne_eqb k 0 a)) there

-- the whole text is read
pub all_read : (list text : List ℕ) (c : Document) (os : List Open) (n at : ℕ) → length text ≤ at → onward list text
    (state after c os n) at ≡ passes c
unfolding scan does move_number place_number
all_read list text c os n at h = rw (drop_of_length-le text h)
