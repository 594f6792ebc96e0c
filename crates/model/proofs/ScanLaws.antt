-- The one pass over white, texts and tags.
use mathlib.Core.Path.{◌≡◌, refl, ap, subst, ◌∙◌}
use mathlib.Core.Logic.{◌≢◌}
use mathlib.Core.Bool.{Bool, true, false, cond, not, ◌&&◌, ◌||◌}
use mathlib.Core.List.{List, [], ◌∷◌, ◌++◌, append_assoc, append-nil}
use Prim.Native.Nat.{ℕ, suc, ◌+◌, ◌≤◌, ◌<◌}
use native.Mathlib.Omega.{arith}
use lib.Dec.{eqb, leb}
use lib.ListN.{length, get_or, length-append}
use borrow.Author.Tests.{le-leb, lt-leb, leb-false}
use Rattle.model.specs.Lists.{every}
use Rattle.model.specs.Answers.{passes, refuses}
use Rattle.model.specs.Tree.{Document, ε}
use Rattle.model.specs.Bytes.{Class, white, letter, forbidden, class_number, is, class_of, letter_byte, name_byte, is_name}
use Rattle.model.specs.Names.{tag_of}
use Rattle.model.specs.Text.{Place, before, root_open, blank, in_text, tag_open, start_name, start_gap, start_slash, end_open}
use Rattle.model.specs.Text.{end_name, end_gap, after, Move, to, opens, begins, names, closes, stops, moves, move, place_number}
use Rattle.model.specs.Text.{move_number, does, Open, State, start, name_at, text_at, trimmed, behind, text_node, tag_node, outside}
use Rattle.model.specs.Text.{closed, moved, innermost, start_tag, refusal_2, refusal_3, refusal_4, refusal_5, refusal_6, refusal_7}
use Rattle.model.specs.Text.{number_at, form_of, state, an_open, scan}
use Rattle.model.specs.Written.{text_byte, solid_byte, trimmed_text}
use Rattle.model.specs.Grammar.{White, no_white, more_white, start_bytes, end_bytes, empty_bytes}
use Rattle.model.proofs.ListLaws.{every-cons}
use Rattle.model.proofs.Tests.{Yes, Told, yea, nay, told, never, eqb_yes, eqb-false}
use Rattle.model.proofs.Scan.{scan-is}
use Rattle.model.proofs.ByteLaws.{letter_class, name_cases, text_cases, name-cons, name-at-end, text_at-end, trimmed-cons}

-- in content: behind a text, or with nothing but white since the last tag
abbrev pub content-place : Bool → Place
content-place after_text = cond after_text in_text blank

-- a byte of class c, at place p, does m and is allowed
abbrev Does : Place → Move → Class → Type 0
Does p m c = (move p c ≡ m) × (is c forbidden ≡ false)

-- white, and what begins no text, begins none
pub white_no_text : {w : List ℕ} → White w → (s r : List ℕ) → text_at (s ++ r) ≡ [] → text_at ((w ++ s) ++ r) ≡ []
unfolding text_at trimmed is class_number
white_no_text no_white s r h = h
white_no_text (more_white e v) s r h = rw (e, white_no_text v s r h) (rw e)

-- white, and a byte that no name has, begin no name
white_no_name : {w : List ℕ} → White w → (z : ℕ) (s r : List ℕ) → name_byte z ≡ false → name_at ((w ++ (z ∷ s)) ++ r) ≡ []
unfolding name_at name_byte is class_number
white_no_name no_white z s r h = rw h
white_no_name (more_white e v) z s r h = rw e

module _ (list : List ℕ) where
  -- the number that refuses an allowed byte that does m
  abbrev number_by : State → ℕ → List ℕ → Move → ℕ
  number_by st b s m =
      cond (does m stops) 3
      (cond (does m opens && eqb (tag_of list (name_at (b ∷ s))) 0) 4
      (cond (does m names && not (eqb (tag_of list (name_at (b ∷ s))) (innermost st.opened))) 5
      (cond (start_tag m s && leb 32 (length st.opened)) 6
      (cond ((start_tag m s || does m begins) && leb 4096 st.nodes) 7 0))))

  -- over the bytes, with `rest` behind them, the pass comes from one state to another
  pub record Scans (st : State) (i : ℕ) (bytes rest : List ℕ) (st' : State) : Type 0 where
    pub goes : scan list st i (bytes ++ rest) ≡ scan list st' (i + length bytes) rest

  -- some bytes and then others; no bytes
  pub then : {st st' st'' : State} {i : ℕ} {xs ys rest : List ℕ} → Scans st i xs (ys ++ rest) st'
      → Scans st' (i + length xs) ys rest st'' → Scans st i (xs ++ ys) rest st''
  then {st'' = st''} {i} {xs} {ys} {rest} r q =
      let e : i + length xs + length ys ≡ i + length (xs ++ ys) = omega (arith, length-append xs ys) in
      record { goes = rw (append_assoc xs ys rest) (r.goes ∙ q.goes ∙ ap (λ (j : ℕ). scan list st'' j rest) e) }

  pub nothing : {st : State} {i : ℕ} {rest : List ℕ} → Scans st i [] rest st
  nothing {st} {i} {rest} = let e : i ≡ i + 0 = omega arith in record { goes = ap (λ (j : ℕ). scan list st j rest) e }

  -- a byte that is not refused, and then others
  byte : {i b : ℕ} {xs rest : List ℕ} {p : Place} {c : Document} {os : List Open} {n : ℕ} {st' : State} (m : Move)
      → Does p m (class_of b) → number_by (state p c os n) b (xs ++ rest) m ≡ 0 → Scans (moved list (state p c os n) i (b ∷ (xs ++ rest)) m)
      (suc i) xs rest st'
      → Scans (state p c os n) i (b ∷ xs) rest st'
  unfolding scan number_at refusal_2 refusal_3 refusal_4 refusal_5 refusal_6 refusal_7
  byte {i} {b} {xs} {rest} {p} {c} {os} {n} {st'} m (e, f) z r =
      let on : suc i + length xs ≡ i + suc (length xs) = omega arith in
      record { goes = rw (f, e) (rw z (r.goes ∙ ap (λ (j : ℕ). scan list st' j rest) on)) }

  -- from a state and a place on, the text is refused
  pub record Stops (st : State) (i : ℕ) (s : List ℕ) : Type 0 where
    pub number : ℕ
    pub place : ℕ
    pub says : scan list st i s ≡ refuses number place

  -- a byte that is refused
  refused : {i b : ℕ} {s : List ℕ} {p : Place} {c : Document} {os : List Open} {n : ℕ} (k : ℕ) (m : Move)
      → Does p m (class_of b) → number_by (state p c os n) b s m ≡ suc k → Stops (state p c os n) i (b ∷ s)
  unfolding scan number_at refusal_2 refusal_3 refusal_4 refusal_5 refusal_6 refusal_7
  refused {i} k m (e, f) z =
      let some : eqb (suc k) 0 ≡ false = eqb-false {m = suc k} {n = 0} (λ h. omega arith) in
      record { number = suc k; place = i; says = rw (f, e) (rw z (rw some)) }

  -- bytes that each stay at a place
  run : (p : Place) (test : ℕ → Bool) {c : Document} {os : List Open} {n i : ℕ} {rest : List ℕ}
      → ((b : ℕ) → Yes (test b) → Does p (to p) (class_of b)) → ((b : ℕ) (s : List ℕ) → number_by (state p c os n) b s (to p) ≡ 0)
      → (bytes : List ℕ) → Yes (every test bytes) → Scans (state p c os n) i bytes rest (state p c os n)
  unfolding moved
  run p test stays free [] t = nothing
  run p test {rest = rest} stays free (b ∷ bytes) t =
      let (u, v) = every-cons test b bytes t in
      byte (to p) (stays b u) (free b (bytes ++ rest)) (run p test stays free bytes v)

  -- ---- white

  -- white that stays at a place
  white_run : (p : Place) {c : Document} {os : List Open} {n i : ℕ} {w rest : List ℕ}
      → Does p (to p) white → ((b : ℕ) (s : List ℕ) → number_by (state p c os n) b s (to p) ≡ 0)
      → White w → Scans (state p c os n) i w rest (state p c os n)
  unfolding moved
  white_run p stays free no_white = nothing
  white_run p {rest = rest} stays free (more_white {b} {w} e v) =
      byte (to p) (rw e stays) (free b (w ++ rest)) (white_run p stays free v)

  -- around the root, in content, and after a text
  module _ {c : Document} {os : List Open} {n i : ℕ} {w rest : List ℕ} (v : White w) where
    pub before-run : Scans (state before c os n) i w rest (state before c os n)
    unfolding move moves is class_number does move_number place_number start_tag
    before-run = white_run before (refl, refl) (λ b s. refl) v

    pub after_run : Scans (state after c os n) i w rest (state after c os n)
    unfolding move moves is class_number does move_number place_number start_tag
    after_run = white_run after (refl, refl) (λ b s. refl) v

    pub blank-run : Scans (state blank c os n) i w rest (state blank c os n)
    unfolding move moves is class_number does move_number place_number start_tag
    blank-run = white_run blank (refl, refl) (λ b s. refl) v

    pub trailing_run : Scans (state in_text c os n) i w rest (state in_text c os n)
    unfolding move moves is class_number does move_number place_number start_tag
    trailing_run = white_run in_text (refl, refl) (λ b s. refl) v

  -- after a name, at p, white leads to the gap q; then the tag ends
  gap_run : (p q : Place) {c : Document} {os : List Open} {n i : ℕ} {w end rest : List ℕ} {st : State}
      → Does p (to q) white → Does q (to q) white → ((r : Place) (b : ℕ) (s : List ℕ) → number_by (state r c os n) b s (to q) ≡ 0)
      → White w → ((j : ℕ) → Scans (state p c os n) j end rest st) → ((j : ℕ) → Scans (state q c os n) j end rest st)
      → Scans (state p c os n) i (w ++ end) rest st
  unfolding moved
  gap_run p q enters stays free no_white ends ends_gap = ends _
  gap_run p q {end = end} {rest} enters stays free (more_white {b} {w} e v) ends ends_gap =
      byte (to q) (rw e enters) (free p b ((w ++ end) ++ rest)) (then {xs = w} (white_run q stays (free q) v) (ends_gap _))

  -- ---- texts

  -- the first byte of a text
  text_begins : (b : ℕ) → Yes (text_byte b) → Yes (solid_byte b) → Does blank begins (class_of b)
  unfolding solid_byte move moves is class_number
  text_begins =
      text_cases (λ k. Yes (not (is k white)) → Does blank begins k)
      (λ u. never u) (λ u. (refl, refl)) (λ u. (refl, refl)) (λ u. (refl, refl)) (λ u. (refl, refl)) (λ u. (refl, refl))

  -- a text, up to what begins none
  pub text_run : {c : Document} {os : List Open} {n i : ℕ} {rest : List ℕ} (t : List ℕ) → Yes (trimmed_text t) → text_at rest ≡ []
      → n < 4096 → Scans (state blank c os n) i t rest (state in_text (behind c (text_node i t)) os (suc n))
  unfolding trimmed_text moved move moves is class_number does move_number place_number start_tag
  text_run [] h e room = never h
  text_run {c} {os} {n} {i} {rest} (b ∷ t) h e room =
      let (first, last, all) = trimmed-cons b t h in
      let (u, v) = every-cons text_byte b t all in
      subst (λ (l : List ℕ). Scans (state blank c os n) i (b ∷ t) rest (state in_text (behind c (text_node i l)) os (suc n)))
      (text_at-end b t rest all last e)
      (byte begins (text_begins b u first) (rw (lt-leb 4096 n room))
      (run in_text text_byte
      (text_cases (Does in_text (to in_text)) (refl, refl) (refl, refl) (refl, refl) (refl, refl) (refl, refl) (refl, refl))
      (λ b s. refl) t v))

  -- as node 4,097 it is refused
  pub text_refused : {c : Document} {os : List Open} {n i : ℕ} (rest t : List ℕ) → Yes (trimmed_text t) → 4096 ≤ n
      → Stops (state blank c os n) i (t ++ rest)
  unfolding trimmed_text does move_number place_number start_tag
  text_refused rest [] h full = never h
  text_refused {n = n} rest (b ∷ t) h full =
      let (first, _, all) = trimmed-cons b t h in
      refused 6 begins (text_begins b (every-cons text_byte b t all).0 first) (rw (le-leb 4096 n full))

  -- ---- tags

  -- a name of the list, and its tag
  pub record Listed (name : List ℕ) (a : ℕ) : Type 0 where
    pub named : Yes (is_name name)
    pub tag_is : tag_of list name ≡ a
    pub some : a ≢ 0

  -- up to what begins no name, the name is that of the tag
  tag_here : (name : List ℕ) {a : ℕ} → Listed name a → (rest : List ℕ) → name_at rest ≡ [] → tag_of list (name_at (name ++ rest)) ≡ a
  tag_here name l rest stop = ap (tag_of list) (name-at-end name rest l.named stop) ∙ l.tag_is

  -- The < of a tag leads from place p to place q, where a letter opens an element. With a letter behind it, it wants room for one.
  pub record Leads (p q : Place) : Type 0 where
    pub less_moves : Does p (to q) (class_of 60)
    pub letter_opens : Does q opens letter
    pub less_number : (st : State) (s : List ℕ)
        → number_by st 60 s (to q)
        ≡ cond (letter_byte (get_or s 0 0) && leb 32 (length st.opened)) 6
        (cond ((letter_byte (get_or s 0 0) || false) && leb 4096 st.nodes) 7 0)

  pub at-root : Leads before root_open
  unfolding move moves is class_number class_of does move_number place_number start_tag
  at-root = record { less_moves = (refl, refl); letter_opens = (refl, refl); less_number = λ st s. refl }

  pub in_content : (after_text : Bool) → Leads (content-place after_text) tag_open
  unfolding move moves is class_number class_of does move_number place_number start_tag
  in_content true = record { less_moves = (refl, refl); letter_opens = (refl, refl); less_number = λ st s. refl }
  in_content false = record { less_moves = (refl, refl); letter_opens = (refl, refl); less_number = λ st s. refl }

  -- a start tag's < and name
  start-run : {p q : Place} {c : Document} {os : List Open} {n i : ℕ} {rest : List ℕ} (name : List ℕ) {a : ℕ}
      → Leads p q → Listed name a → length os < 32 → n < 4096 → name_at rest ≡ []
      → Scans (state p c os n) i (60 ∷ name) rest (state start_name ε (an_open a c ∷ os) (suc n))
  unfolding is_name moved move moves is class_number does move_number place_number start_tag
  start-run [] leads l deep room stop = never l.named
  start-run {p} {q} {c} {os} {n} {rest = rest} (b ∷ name) {a} leads l deep room stop =
      let (first, more) = name-cons b name l.named in
      let here = tag_here (b ∷ name) l rest stop in
      byte (to q) leads.less_moves
      (leads.less_number (state p c os n) (b ∷ (name ++ rest)) ∙ rw (first, lt-leb 32 (length os) deep, lt-leb 4096 n room))
      (rw (← here) (byte opens (rw (letter_class b first) leads.letter_opens) (rw (here, eqb-false l.some))
      (run start_name name_byte (name_cases (Does start_name (to start_name)) (refl, refl) (refl, refl) (refl, refl))
      (λ b s. refl) name more)))

  -- at depth 33, or as node 4,097, it is refused
  pub start-refused : {p q : Place} {c : Document} {os : List Open} {n i : ℕ} (rest name : List ℕ) {a : ℕ}
      → Leads p q → Listed name a → (length os < 32 → n < 4096 → ⊥) → Stops (state p c os n) i (60 ∷ (name ++ rest))
  unfolding is_name
  start-refused rest [] leads l beyond = never l.named
  start-refused {p} {q} {c} {os} {n} {i} rest (b ∷ name) leads l beyond = go (told (leb 32 (length os)))
    where
      first : Yes (letter_byte b)
      first = (name-cons b name l.named).0

      number : number_by (state p c os n) 60 (b ∷ (name ++ rest)) (to q)
          ≡ cond (letter_byte b && leb 32 (length os)) 6 (cond ((letter_byte b || false) && leb 4096 n) 7 0)
      number = leads.less_number (state p c os n) (b ∷ (name ++ rest))

      go : Told (leb 32 (length os)) → Stops (state p c os n) i (60 ∷ b ∷ (name ++ rest))
      go (yea deep) = refused 5 (to q) leads.less_moves (number ∙ rw (first, deep))
      go (nay shallow) =
          let none_left : n < 4096 → ⊥ = beyond (leb-false 32 (length os) shallow) in
          let many : 4096 ≤ n = omega arith in
          refused 6 (to q) leads.less_moves (number ∙ rw (first, shallow, le-leb 4096 n many))

  -- a start tag; the tag of an empty element
  module _ {p q : Place} {name : List ℕ} {a : ℕ} (leads : Leads p q) (listed : Listed name a)
      {c : Document} {os : List Open} {n i : ℕ} {w rest : List ℕ} (deep : length os < 32) (room : n < 4096) (v : White w) where
    pub start_tag_run : Scans (state p c os n) i (start_bytes name w) rest (state blank ε (an_open a c ∷ os) (suc n))
    unfolding name_byte moved move moves is class_of class_number does move_number place_number start_tag
    start_tag_run =
        then {xs = 60 ∷ name} (start-run name leads listed deep room (white_no_name v 62 [] rest refl))
        (gap_run start_name start_gap (refl, refl) (refl, refl) (λ r b s. refl) v
        (λ j. byte (to blank) (refl, refl) refl nothing) (λ j. byte (to blank) (refl, refl) refl nothing))

    pub empty_tag_run : Scans (state p c os n) i (empty_bytes name w) rest (state (outside os) (behind c (tag_node a ε)) os (suc n))
    unfolding closed name_byte moved move moves is class_of class_number does move_number place_number start_tag
    empty_tag_run =
        then {xs = 60 ∷ name} (start-run name leads listed deep room (white_no_name v 47 (62 ∷ []) rest refl))
        (gap_run start_name start_gap (refl, refl) (refl, refl) (λ r b s. refl) v
        (λ j. byte (to start_slash) (refl, refl) refl (byte closes (refl, refl) refl nothing))
        (λ j. byte (to start_slash) (refl, refl) refl (byte closes (refl, refl) refl nothing)))

  -- an end tag's name
  end-run : {c d : Document} {os : List Open} {n i : ℕ} {rest : List ℕ} (name : List ℕ) {a : ℕ} → Listed name a → name_at rest ≡ []
      → Scans (state end_open d (an_open a c ∷ os) n) i name rest (state end_name d (an_open a c ∷ os) n)
  unfolding is_name innermost moved move moves is class_number does move_number place_number start_tag
  end-run [] l stop = never l.named
  end-run {rest = rest} (b ∷ name) {a} l stop =
      let (first, more) = name-cons b name l.named in
      byte names (rw (letter_class b first) (refl, refl)) (rw (tag_here (b ∷ name) l rest stop, eqb_yes {m = a} refl))
      (run end_name name_byte (name_cases (Does end_name (to end_name)) (refl, refl) (refl, refl) (refl, refl)) (λ b s. refl) name more)

  -- an end tag
  pub end_tag_run : {p : Place} {name : List ℕ} {a : ℕ} → Leads p tag_open → Listed name a
      → {c d : Document} {os : List Open} {n i : ℕ} {w rest : List ℕ} → White w
      → Scans (state p d (an_open a c ∷ os) n) i (end_bytes name w) rest (state (outside os) (behind c (tag_node a d)) os n)
  unfolding closed letter_byte name_byte moved move moves is class_of class_number does move_number place_number start_tag
  end_tag_run {p} {name} {a} leads l {c} {d} {os} {n} {w = w} {rest} v =
      byte (to tag_open) leads.less_moves
      (leads.less_number (state p d (an_open a c ∷ os) n) (47 ∷ ((name ++ (w ++ (62 ∷ []))) ++ rest)))
      (byte (to end_open) (refl, refl) refl
      (then {xs = name} (end-run name l (white_no_name v 62 [] rest refl))
      (gap_run end_name end_gap (refl, refl) (refl, refl) (λ r b s. refl) v
      (λ j. byte closes (refl, refl) refl nothing) (λ j. byte closes (refl, refl) refl nothing))))

  -- ---- forms

  -- bytes that lead from the start to a place after the root are a form
  pub form-read : {bytes : List ℕ} {d : Document} {n : ℕ} → length bytes ≤ 65535 → Scans start 0 bytes []
      (state after d [] n) → form_of list bytes ≡ passes d
  unfolding scan does move_number place_number
  form-read {bytes} short r = scan-is list bytes ∙ rw (le-leb (length bytes) 65535 short) (rw append-nil at r.goes)
