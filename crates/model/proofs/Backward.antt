-- What the one pass takes is a form by the grammar: what remains of the text is told at each place, byte by byte from its end to its start.
use mathlib.Core.Path.{◌≡◌, refl, sym, ap, subst, ◌∙◌}
use mathlib.Core.Logic.{◌⊎◌, inl, inr}
use mathlib.Core.Bool.{false, true≢false}
use mathlib.Core.List.{List, [], ◌∷◌, ◌++◌}
use Prim.Native.Nat.{ℕ, suc, ◌+◌}
use native.Mathlib.Omega.{arith}
use lib.Dec.{eqb}
use lib.ListN.{length}
use Rattle.model.specs.Answers.{passes}
use Rattle.model.specs.Tree.{Element, Document, ε, ◌·◌}
use Rattle.model.specs.Bytes.{Class, white, letter, less, greater, slash, class_number, is, class_of, less_byte, greater_byte}
use Rattle.model.specs.Bytes.{slash_byte}
use Rattle.model.specs.Names.{tag_of}
use Rattle.model.specs.Text.{Place, before, root_open, blank, in_text, tag_open, start_name, start_gap, start_slash, end_open}
use Rattle.model.specs.Text.{end_name, end_gap, after, Move, to, opens, begins, closes, stops, moves, move, move_number, does, Open}
use Rattle.model.specs.Text.{State, start, name_at, behind, tag_node, outside, closed, moved, innermost, number_at, state, an_open}
use Rattle.model.specs.Text.{scan, place_number}
use Rattle.model.specs.Text as text
use Rattle.model.specs.Grammar.{list_bytes, NameList, no_white, more_white, ElementAt, Form, form}
use Rattle.model.proofs.Tests.{Yes, same, never}
use Rattle.model.proofs.CheckLaws.{passes_inj, guarded}
use Rattle.model.proofs.ByteLaws.{less_is, greater_is, slash_is}
use Rattle.model.proofs.ReadSteps.{Allowed, not_stopped, row, name_class, text_class, solid_class, as_name_byte, as_text_byte}
use Rattle.model.proofs.ReadSteps.{as_solid_byte}
use Rattle.model.proofs.Remaining.{Gap, Named, Texted, gap_on, gap_done, name-on, name-over, text_on, text_over, Outside, over}
use Rattle.model.proofs.Remaining.{Closes, Closed, AfterStart, AfterEnd, Opens, FromTag, element_next, end-next, tag_next, blank-on}
use Rattle.model.proofs.Remaining.{text_begun, ended, opened}

-- ---- what remains at each place

-- where an element is open, the innermost and the others; where none is
abbrev Inside : (Open → List Open → Type 0) → List Open → Type 0
Inside P os = (o : Open) (rest : List Open) → os ≡ o ∷ rest → P o rest

abbrev Alone : Type 0 → List Open → Type 0
Alone P os = os ≡ [] → P

-- the text goes on as r, from offset i on, to its end, where the content is f
module _ (names : List (List ℕ)) (f : Document) (c : Document) (os : List Open) (i : ℕ) (r : List ℕ) where
  abbrev Remains : Place → Type 0
  Remains before = Alone (Gap [] (Opens names f [] c) i r) os
  Remains root_open = Alone ((j : ℕ) → i ≡ suc j → Opens names f [] c j (less_byte ∷ r)) os
  Remains blank = Inside (λ o os. Outside names f (o ∷ os) c i r) os
  Remains in_text = Inside (λ o os. Texted (FromTag names f o os c) i r) os
  Remains tag_open = Inside (λ o os. (j : ℕ) → i ≡ suc j → FromTag names f o os c j (less_byte ∷ r)) os
  Remains start_name = Inside (λ o os. Named (AfterStart names f o os c) i r) os
  Remains start_gap = Inside (λ o os. AfterStart names f o os c i r) os
  Remains start_slash = Inside (λ o os. (t : List ℕ) × (r ≡ greater_byte ∷ t) × Closed names f o os c (suc i) t) os
  Remains end_open = Inside (λ o os. (j : ℕ) → i ≡ suc (suc j) → Closes names f o os c j (less_byte ∷ slash_byte ∷ r)) os
  Remains end_name = Inside (λ o os. Named (AfterEnd names f o os c) i r) os
  Remains end_gap = Inside (λ o os. AfterEnd names f o os c i r) os
  Remains after = Alone (Outside names f [] c i r) os

-- after an element
after_element : (names : List (List ℕ)) (f c : Document) (os : List Open) (i : ℕ) (r : List ℕ)
    → Remains names f c os i r (outside os) → Outside names f os c i r
unfolding outside
after_element names f c [] i r x = x refl
after_element names f c (o ∷ os) i r x = x o os refl

-- ---- byte b at offset i, the text going on as b ∷ t

module _ (names : List (List ℕ)) (is-list : NameList names) (f c : Document) (os : List Open) (n i b : ℕ) (t : List ℕ) where
  abbrev list : List ℕ
  list = list_bytes names

  -- what remains after it; with it, at a place
  abbrev After : State → Type 0
  After st = Remains names f st.content st.opened (suc i) t st.place

  abbrev At : Place → Type 0
  At p = Remains names f c os i (b ∷ t) p

  -- of class k, at place p, it does m
  abbrev Back : Place → Class → Move → Type 0
  Back p k m = class_of b ≡ k → Allowed list os b t m → After (moved list (state p c os n) i (b ∷ t) m) → At p

  stop : {k : Class} {A : Type 0} → class_of b ≡ k → Allowed list os b t stops → A
  unfolding does move_number
  stop e a = absurd (true≢false a.goes_on)

  goes : (p q : Place) {k : Class} → (class_of b ≡ k → Remains names f c os (suc i) t q → At p) → Back p k (to q)
  unfolding moved
  goes p q h e a = h e

  -- it is one of <, >, / with more after it
  as_byte : {z : ℕ} → b ≡ z → (l : List ℕ) → t ≡ l → b ∷ t ≡ z ∷ l
  as_byte e l h = cc

  -- ---- around the root

  waits : Back before white (to before)
  waits = goes before before (λ e x z. gap_on _ i b t [] e (x z))

  root-begins : Back before less (to root_open)
  root-begins = goes before root_open (λ e x z.
      gap_done _ i b t [] (less_byte ∷ t) (as_byte (less_is b e) t refl) (omega arith) (x z i refl))

  after_on : Back after white (to after)
  after_on = goes after after (λ e x z. more_after e (x z))
    where
      more_after : class_of b ≡ white → Outside names f [] c (suc i) t → Outside names f [] c i (b ∷ t)
      more_after e (over w h) = over (more_white e w) h

  -- ---- in content

  blank_more : Back blank white (to blank)
  blank_more = goes blank blank (λ e x o rest z. blank-on names f o rest c i b t e (x o rest z))

  -- the < of a tag
  at_less : class_of b ≡ less → Remains names f c os (suc i) t tag_open → Inside (λ o os. FromTag names f o os c i (b ∷ t)) os
  at_less e x o rest z = subst (λ (y : ℕ). FromTag names f o rest c i (y ∷ t)) (sym (less_is b e)) (x o rest z i refl)

  tag_begins : Back blank less (to tag_open)
  tag_begins = goes blank tag_open (λ e x o rest z. tag_next names f o rest c i (b ∷ t) (at_less e x o rest z))

  text_more : {k : Class} → Yes (text_class k) → Back in_text k (to in_text)
  text_more h = goes in_text in_text (λ e x o rest z. text_on _ i b t (as_text_byte b e h) (x o rest z))

  text_ended : Back in_text less (to tag_open)
  text_ended = goes in_text tag_open (λ e x o rest z. text_over _ i b t e (at_less e x o rest z))

  text_starts : {k : Class} → Yes (text_class k) → Yes (solid_class k) → Back blank k begins
  unfolding moved
  text_starts h k e a x o rest z = text_begun names f o rest c i b t (as_text_byte b e h) (as_solid_byte b e k) (x o rest z)

  end-begins : Back tag_open slash (to end_open)
  end-begins = goes tag_open end_open (λ e x o rest z j y.
      end-next names f o rest c j (less_byte ∷ b ∷ t)
      (subst (λ (q : ℕ). Closes names f o rest c j (less_byte ∷ q ∷ t)) (sym (slash_is b e)) (x o rest z j (ap suc y))))

  -- ---- in a tag, after its name

  start_gap_on : Back start_gap white (to start_gap)
  start_gap_on = goes start_gap start_gap (λ e x o rest z. either e (x o rest z))
    where
      either : {P Q : ℕ → List ℕ → Type 0} {end end' : List ℕ} → class_of b ≡ white → Gap end P (suc i) t ⊎ Gap end' Q (suc i) t
          → Gap end P i (b ∷ t) ⊎ Gap end' Q i (b ∷ t)
      either {P} {end = end} e (inl g) = inl (gap_on P i b t end e g)
      either {Q = Q} {end' = end} e (inr g) = inr (gap_on Q i b t end e g)

  start_done : Back start_gap greater (to blank)
  start_done = goes start_gap blank (λ e x o rest z.
      inl (gap_done _ i b t (greater_byte ∷ []) t (as_byte (greater_is b e) t refl) (omega arith) (x o rest z)))

  slashed : Back start_gap slash (to start_slash)
  slashed = goes start_gap start_slash (λ e x o rest z.
      let (u, h, y) = x o rest z in
      inr (gap_done _ i b t (slash_byte ∷ greater_byte ∷ []) u (as_byte (slash_is b e) (greater_byte ∷ u) h) (omega arith) y))

  end_gap_on : Back end_gap white (to end_gap)
  end_gap_on = goes end_gap end_gap (λ e x o rest z. gap_on _ i b t (greater_byte ∷ []) e (x o rest z))

  -- ---- in a name: it goes on, or it is over, and then the byte may as well stand in the gap after it

  start-on : {k : Class} → Yes (name_class k) → Back start_name k (to start_name)
  start-on h = goes start_name start_name (λ e x o rest z. name-on _ i b t (as_name_byte b e h) (x o rest z))

  start-over : (q : Place) {k : Class} → name_class k ≡ false → Back start_gap k (to q) → Back start_name k (to q)
  unfolding moved
  start-over q h back e a x o rest z = name-over _ i b t (as_name_byte b e h) (back e a x o rest z)

  end_on : {k : Class} → Yes (name_class k) → Back end_name k (to end_name)
  end_on h = goes end_name end_name (λ e x o rest z. name-on _ i b t (as_name_byte b e h) (x o rest z))

  end-over : Back end_name white (to end_gap)
  unfolding moved is class_number
  end-over e a x o rest z = name-over _ i b t (as_name_byte b e refl) (end_gap_on e a x o rest z)

  -- ---- an element ends, by /> or by its end tag

  closed_left : After (closed c os n) → Inside (λ o os. Closed names f o os c (suc i) t) os
  unfolding closed
  closed_left x o rest z = after_element names f (behind o.earlier (tag_node o.name c)) rest (suc i) t
      (subst (λ (l : List Open). After (closed c l n)) z x)

  ends_empty : Back start_slash greater closes
  unfolding moved
  ends_empty e a x o rest z = (t, as_byte (greater_is b e) t refl, closed_left x o rest z)

  ends_tag : Back end_gap greater closes
  unfolding moved
  ends_tag e a x o rest z = gap_done _ i b t (greater_byte ∷ []) t (as_byte (greater_is b e) t refl) (omega arith) (closed_left x o rest z)

  ends-name : Back end_name greater closes
  unfolding moved is class_number
  ends-name e a x o rest z = name-over _ i b t (as_name_byte b e refl) (ends_tag e a x o rest z)

  -- ---- a name begins

  opens_at : class_of b ≡ letter → Allowed list os b t opens
      → Remains names f ε (an_open (tag_of list (name_at (b ∷ t))) c ∷ os) (suc i) t start_name
      → (j : ℕ) → i ≡ suc j → Opens names f os c j (less_byte ∷ b ∷ t)
  unfolding does move_number is class_number
  opens_at e a x j y =
      let o = an_open (tag_of list (name_at (b ∷ t))) c in
      opened names f is-list os c j b t (as_name_byte b e refl) (a.listed refl)
      (subst (λ (k : ℕ). Named (AfterStart names f o os ε) (suc k) t) y (x o os refl))

  root_opens : Back root_open letter opens
  unfolding moved
  root_opens e a x z j y = subst (λ (l : List Open). Opens names f l c j (less_byte ∷ b ∷ t)) z (opens_at e a x j y)

  tag_opens : Back tag_open letter opens
  unfolding moved
  tag_opens e a x o rest z j y = element_next names f o rest c j (less_byte ∷ b ∷ t)
      (subst (λ (l : List Open). Opens names f l c j (less_byte ∷ b ∷ t)) z (opens_at e a x j y))

  end-named : Back end_open letter text.names
  unfolding moved does move_number innermost is class_number
  end-named e a x o rest z j y =
      ended names f o rest c j b t (as_name_byte b e refl) (a.innermost-named refl ∙ ap innermost z)
      (subst (λ (k : ℕ). Named (AfterEnd names f o rest c) (suc k) t) y (x o rest z))

  -- ---- the moves of a place, one for each class: white, letter, digit, hyphen, <, >, /, other, forbidden

  abbrev Row : Place → Class → Type 0
  Row p k = Back p k (move p k)

  back : (p : Place) (k : Class) → Row p k
  unfolding move moves class_number is moved
  back before = row (Row before) waits stop stop stop root-begins stop stop stop stop
  back root_open = row (Row root_open) stop root_opens stop stop stop stop stop stop stop
  back blank =
      row (Row blank) blank_more (text_starts refl refl) (text_starts refl refl) (text_starts refl refl)
      tag_begins stop (text_starts refl refl) (text_starts refl refl) stop
  back in_text =
      row (Row in_text) (text_more refl) (text_more refl) (text_more refl) (text_more refl)
      text_ended stop (text_more refl) (text_more refl) stop
  back tag_open = row (Row tag_open) stop tag_opens stop stop stop stop end-begins stop stop
  back start_name =
      row (Row start_name) (start-over start_gap refl start_gap_on) (start-on refl) (start-on refl) (start-on refl)
      stop (start-over blank refl start_done) (start-over start_slash refl slashed) stop stop
  back start_gap = row (Row start_gap) start_gap_on stop stop stop stop start_done slashed stop stop
  back start_slash = row (Row start_slash) stop stop stop stop stop ends_empty stop stop stop
  back end_open = row (Row end_open) stop end-named stop stop stop stop stop stop stop
  back end_name = row (Row end_name) end-over (end_on refl) (end_on refl) (end_on refl) stop ends-name stop stop stop
  back end_gap = row (Row end_gap) end_gap_on stop stop stop stop ends_tag stop stop stop
  back after = row (Row after) after_on stop stop stop stop stop stop stop stop

-- ---- the text, from its end back to its start

-- it may end only after the root
is-after : (p : Place) → Yes (does (to p) (to after)) → p ≡ after
unfolding does move_number place_number
is-after before e = never e
is-after root_open e = never e
is-after blank e = never e
is-after in_text e = never e
is-after tag_open e = never e
is-after start_name e = never e
is-after start_gap e = never e
is-after start_slash e = never e
is-after end_open e = never e
is-after end_name e = never e
is-after end_gap e = never e
is-after after e = refl

module _ (names : List (List ℕ)) (is-list : NameList names) (f : Document) where
  remains : (r : List ℕ) (st : State) (i : ℕ) → scan (list_bytes names) st i r ≡ passes f
      → Remains names f st.content st.opened i r st.place
  unfolding scan
  remains [] st i e =
      let (here, taken) = guarded (does (to st.place) (to after)) (passes st.content) 3 i e in
      subst (Remains names f st.content st.opened i []) (sym (is-after st.place here)) (λ z. over no_white (passes_inj taken))
  remains (b ∷ t) st i e =
      let list = list_bytes names in
      let (free, next) = guarded (eqb (number_at list st (b ∷ t)) 0) _ (number_at list st (b ∷ t)) i e in
      back names is-list f st.content st.opened st.nodes i b t st.place (class_of b) refl
      (not_stopped list st b t (same _ 0 free)) (remains t _ (suc i) next)

  -- so a text that the pass takes is a form
  pub scanned_form : (s : List ℕ) → scan (list_bytes names) start 0 s ≡ passes f → (e : Element) × (f ≡ e · ε) × Form names s e
  unfolding behind
  scanned_form s e = go root.follows
    where
      ahead : Gap [] (Opens names f [] ε) 0 s
      ahead = remains s start 0 e refl

      root : Opens names f [] ε (0 + length ahead.bytes + 0) ahead.next
      root = ahead.follows

      go : Outside names f [] (root.element · ε) (0 + length ahead.bytes + 0 + length root.bytes) root.next
          → (e : Element) × (f ≡ e · ε) × Form names s e
      go (over w h) =
          let here : 0 + length ahead.bytes + 0 ≡ length ahead.bytes = omega arith in
          let element = subst (λ (j : ℕ). ElementAt names j root.bytes root.element) here root.is_element in (
            root.element,
            sym h,
            subst (λ l. Form names l root.element) (sym (ahead.bytes_are ∙ ap (λ l. ahead.bytes ++ l) root.bytes_are))
                (form ahead.is_white element w),
          )
