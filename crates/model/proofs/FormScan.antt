-- The one pass over a form by the grammar: it takes the form, with the grammar's tree, exactly where the tree keeps the rules.
use mathlib.Core.Path.{◌≡◌, refl, sym, subst, subst₂, ◌∙◌}
use mathlib.Core.Bool.{Bool, true, false, and-false}
use mathlib.Core.List.{List, [], ◌∷◌, ◌++◌, append_assoc, append-nil}
use Prim.Native.Nat.{ℕ, suc, ◌+◌, ◌-◌, ◌≤◌, ◌<◌}
use native.Mathlib.Omega.{arith}
use native.Mathlib.Nat.{zero-add}
use lib.ListN.{length}
use lib.Dec.{leb}
use borrow.Author.Tests.{leb-true, leb-false}
use Rattle.model.specs.Answers.{passes}
use Rattle.model.specs.Tree.{Element, Document, ε, ◌·◌, size, sizeD, is_text, Keeps, KeepsD, Over}
use Rattle.model.specs.Bytes.{class_number, is, class_of}
use Rattle.model.specs.Text.{Place, blank, Open, State, text_at, behind, text_node, tag_node, outside, form_of, state, scan, before}
use Rattle.model.specs.Text.{root_open, in_text, tag_open, an_open, start, after}
use Rattle.model.specs.Grammar.{list_bytes, TagOf, NameList, start_bytes, end_bytes, ElementAt, empty, full, TagsAt, no_more, more}
use Rattle.model.specs.Grammar.{Form, form, White, empty_bytes, GoodForm}
use Rattle.model.specs.Written.{trimmed_text}
use Rattle.model.proofs.DocumentLaws.{followed, followed_ε, followed_behind, ends_in_text}
use Rattle.model.proofs.NameList.{tag_numbers}
use Rattle.model.proofs.ScanLaws.{content-place, white_no_text, Scans, nothing, then, before-run, after_run, blank-run, trailing_run}
use Rattle.model.proofs.ScanLaws.{text_run, Listed, Leads, at-root, in_content, start_tag_run, empty_tag_run, end_tag_run, form-read}
use Rattle.model.proofs.ScanLaws.{Stops, text_refused, start-refused}
use Rattle.model.proofs.CheckLaws.{refuses≢passes}
use Rattle.model.proofs.Tests.{Yes, Told, yea, nay, told}
use Rattle.model.proofs.TextLaws.{kind_range}
use Rattle.model.proofs.GrammarLaws.{Kept, every_element}

-- an element is a tag
element_tag : {names : List (List ℕ)} {i : ℕ} {s : List ℕ} {e : Element} → ElementAt names i s e → is_text e ≡ false
unfolding is_text tag_node
element_tag (empty t v) = refl
element_tag (full t v c u) = refl

-- a tag begins no text
tags_no_text : {names : List (List ℕ)} {i : ℕ} {s : List ℕ} {d : Document} → TagsAt names i s d
    → (r : List ℕ) → text_at (s ++ (60 ∷ r)) ≡ []
unfolding text_at is class_of class_number
tags_no_text no_more r = refl
tags_no_text (more (empty t v) c) r = refl
tags_no_text (more (full t v d u) c) r = refl

-- ---- bytes that are taken exactly within limits

module _ (list : List ℕ) where
  -- within the limits W the pass comes from one state to another, and beyond them it refuses the text
  data Pass (W : Type 0) (st : State) (i : ℕ) (bytes rest : List ℕ) (st' : State) : Type 0 where
    within : W → Scans list st i bytes rest st' → Pass W st i bytes rest st'
    beyond : (W → ⊥) → Stops list st i (bytes ++ rest) → Pass W st i bytes rest st'

  -- some bytes and then others, under limits X that include those of the first
  then_pass : {W X : Type 0} {st st' st'' : State} {i : ℕ} {xs ys rest : List ℕ} → Pass W st i xs (ys ++ rest) st'
      → (X → W) → (W → Pass X st' (i + length xs) ys rest st'') → Pass X st i (xs ++ ys) rest st''
  then_pass {W} {X} {st} {st'} {st''} {i} {xs} {ys} {rest} (within w r) includes next = go (next w)
    where
      go : Pass X st' (i + length xs) ys rest st'' → Pass X st i (xs ++ ys) rest st''
      go (within v q) = within v (then list {xs = xs} r q)
      go (beyond n s) = beyond n (record { number = s.number; place = s.place; says = rw (append_assoc xs ys rest) (r.goes ∙ s.says) })
  then_pass {xs = xs} {ys} {rest} (beyond n s) includes next =
      beyond (λ v. n (includes v)) (record { number = s.number; place = s.place; says = rw (append_assoc xs ys rest) s.says })

  -- bytes without limits, and then others
  after_pass : {W : Type 0} {st st' st'' : State} {i : ℕ} {xs ys rest : List ℕ} → Scans list st i xs (ys ++ rest) st'
      → Pass W st' (i + length xs) ys rest st'' → Pass W st i (xs ++ ys) rest st''
  after_pass {xs = xs} r q = then_pass {xs = xs} (within tt r) (λ v. tt {0}) (λ u. q)

  -- the state come to, put another way; and the limits
  ends_as : {st : State} {i : ℕ} {xs rest : List ℕ} {p : Place} {c c' : Document} {os : List Open} {n n' : ℕ}
      → Scans list st i xs rest (state p c os n) → c ≡ c' → n ≡ n' → Scans list st i xs rest (state p c' os n')
  ends_as {st} {i} {xs} {rest} {p} {os = os} r e f = subst₂ (λ c n. Scans list st i xs rest (state p c os n)) e f r

  pass_as : {W X : Type 0} {st : State} {i : ℕ} {xs rest : List ℕ} {p : Place} {c c' : Document} {os : List Open} {n n' : ℕ}
      → Pass W st i xs rest (state p c os n) → (W → X) → (X → W) → c ≡ c' → n ≡ n' → Pass X st i xs rest (state p c' os n')
  pass_as (within w r) f g e h = within (f w) (ends_as r e h)
  pass_as (beyond n s) f g e h = beyond (λ x. n (g x)) s

  -- A start tag or the tag of an empty element, by its name and the bytes after it. It wants a level and a node.
  tag_pass : {W : Type 0} {p q : Place} {c : Document} {os : List Open} {n i a : ℕ} {st : State} (name xs rest : List ℕ)
      → Leads list p q → Listed list name a → (W → (length os < 32) × (n < 4096))
      → (length os < 32 → n < 4096 → W × Scans list (state p c os n) i (60 ∷ (name ++ xs)) rest st)
      → Pass W (state p c os n) i (60 ∷ (name ++ xs)) rest st
  tag_pass {W} {p} {c = c} {os} {n} {i} {st = st} name xs rest leads l needs runs = go (told (leb 32 (length os))) (told (leb 4096 n))
    where
      no : (length os < 32 → n < 4096 → ⊥) → Pass W (state p c os n) i (60 ∷ (name ++ xs)) rest st
      no h = beyond (λ w. let (deep, room) = needs w in h deep room)
          (rw (append_assoc name xs rest) (start-refused list (xs ++ rest) name leads l h))

      go : Told (leb 32 (length os)) → Told (leb 4096 n) → Pass W (state p c os n) i (60 ∷ (name ++ xs)) rest st
      go (yea deep) t = no (λ h k. let d = leb-true 32 (length os) deep in omega arith)
      go (nay shallow) (yea many) = no (λ h k. let d = leb-true 4096 n many in omega arith)
      go (nay shallow) (nay room) = let (w, r) = runs (leb-false 32 (length os) shallow) (leb-false 4096 n room) in within w r

  -- a text, which wants a node
  text_pass : {c : Document} {os : List Open} {n i : ℕ} (t rest : List ℕ) → Yes (trimmed_text t) → text_at rest ≡ []
      → Pass (n < 4096) (state blank c os n) i t rest (state in_text (behind c (text_node i t)) os (suc n))
  text_pass {c} {os} {n} {i} t rest h e = go (told (leb 4096 n))
    where
      go : Told (leb 4096 n) → Pass (n < 4096) (state blank c os n) i t rest (state in_text (behind c (text_node i t)) os (suc n))
      go (yea many) = let d = leb-true 4096 n many in beyond (λ room. omega arith) (text_refused list rest t h d)
      go (nay room) = let d = leb-false 4096 n room in within d (text_run list t h e d)

-- ---- forms

module _ (names : List (List ℕ)) (is-list : NameList names) where
  abbrev list : List ℕ
  list = list_bytes names

  abbrev g : ℕ
  g = length names

  listed : {a : ℕ} {name : List ℕ} → TagOf names a name → Listed list name a
  listed {a} {name} t = record {
    named = is-list.named t;
    tag_is = ((tag_numbers names is-list a name).0 t).1;
    some = λ e. omega (arith, t.some);
  }

  -- An element, and content, below the open elements os: the limits are that it keeps the rules and has no node past 4,096. Content from
  -- a tag on may stand after a text or not.
  abbrev ElementPasses : ℕ → List ℕ → Element → Type 0
  ElementPasses i s e = (p q : Place) (c : Document) (os : List Open) (n : ℕ) (rest : List ℕ) → Leads list p q
      → Pass list (Keeps g (32 - length os) e × (n + size e ≤ 4096))
      (state p c os n) i s rest (state (outside os) (behind c e) os (n + size e))

  abbrev ContentPasses : (after_text : Bool) → ℕ → List ℕ → Document → Type 0
  ContentPasses after_text i s d = (c : Document) (o : Open) (os : List Open) (n : ℕ) (rest : List ℕ) → n ≤ 4096
      → Pass list (KeepsD g (32 - suc (length os)) after_text d × (n + sizeD d ≤ 4096))
      (state (content-place after_text) c (o ∷ os) n) i s (60 ∷ rest)
      (state (content-place (ends_in_text after_text d)) (followed c d) (o ∷ os) (n + sizeD d))

  empty_step : {i a : ℕ} {name w : List ℕ} → TagOf names a name → White w → ElementPasses i (empty_bytes name w) (tag_node a ε)
  unfolding size tag_node
  empty_step {name = name} {w} t v p q c os n rest leads =
      tag_pass list name (w ++ (47 ∷ 62 ∷ [])) rest leads (listed t) (λ (k, f). (omega (arith, k.2), omega arith))
      (λ deep room. (
        ((t.some, t.listed, omega arith, tt), omega arith),
        ends_as list (empty_tag_run list leads (listed t) deep room v) refl (omega arith),
      ))

  full_step : {i a : ℕ} {name w w' s : List ℕ} (d : Document) → TagOf names a name → White w
      → ContentPasses false (i + length (start_bytes name w)) s d
      → White w' → ElementPasses i (start_bytes name w ++ (s ++ end_bytes name w')) (tag_node a d)
  unfolding size tag_node followed
  full_step {a = a} {name} {w} {w'} {s} d t v content u p q c os n rest leads =
      let below : 32 - length os - 1 ≡ 32 - suc (length os) = omega arith in
      then_pass list {xs = start_bytes name w}
      (tag_pass list name (w ++ (62 ∷ [])) _ leads (listed t) (λ x. x)
      (λ deep room. ((deep, room), start_tag_run list leads (listed t) deep room v)))
      (λ (k, f). (omega (arith, k.2), omega arith))
      (λ (deep, room). then_pass list {xs = s}
      (content ε (an_open a c) os (suc n) (47 ∷ ((name ++ (w' ++ (62 ∷ []))) ++ rest)) room)
      (λ (k, f). (subst (λ (l : ℕ). KeepsD g l false d) below k.3, omega arith))
      (λ (k, f). within
      ((t.some, t.listed, omega arith, subst (λ (l : ℕ). KeepsD g l false d) (sym below) k), omega arith)
      (ends_as list (end_tag_run list (in_content list (ends_in_text false d)) (listed t) u) refl (omega arith))))

  text_step : {i : ℕ} {w w' s : List ℕ} {d : Document} (t : List ℕ) → White w → trimmed_text t ≡ true → White w'
      → TagsAt names (i + length w + length t + length w') s d
      → ((b : Bool) → ContentPasses b (i + length w + length t + length w') s d)
      → ContentPasses false i (w ++ (t ++ (w' ++ s))) (text_node (i + length w) t · d)
  unfolding size text_node is_text ends_in_text
  text_step {i} {w} {w'} {s} {d} t v h u ts tags c o os n rest few =
      let node = text_node (i + length w) t in
      after_pass list {xs = w} (blank-run list v)
      (then_pass list {xs = t} (text_pass list t _ h (white_no_text u s (60 ∷ rest) (tags_no_text ts rest)))
      (λ (k, f). omega arith)
      (λ room. after_pass list {xs = w'} (trailing_run list u)
      (pass_as list (tags true (behind c node) o os (suc n) rest room) (λ (k, f). ((refl, kind_range t, k), omega arith))
      (λ (k, f). (k.2, omega arith)) (followed_behind c node d) (omega arith))))

  more_step : {i : ℕ} {s t : List ℕ} {e : Element} (d : Document) → ElementAt names i s e → ElementPasses i s e
      → ContentPasses false (i + length s) t d → (b : Bool) → ContentPasses b i (s ++ t) (e · d)
  unfolding size outside ends_in_text
  more_step {i} {s} {t} {e} d x element content b c o os n rest few =
      rw (element_tag x)
      (then_pass list {xs = s} (element (content-place b) tag_open c (o ∷ os) n (t ++ (60 ∷ rest)) (in_content list b))
      (λ (k, f). (k.1, omega arith))
      (λ (k, f). pass_as list (content (behind c e) o os (n + size e) rest f) (λ (l, m). ((and-false b, k, l), omega arith))
      (λ (l, m). (l.2, omega arith)) (followed_behind c e d) (omega arith)))

  over-step : {i : ℕ} (b : Bool) → ContentPasses b i [] ε
  unfolding size ends_in_text
  over-step b c o os n rest few = within (tt, omega arith) (ends_as list (nothing list) (sym (followed_ε c)) (omega arith))

  kept : Kept names ElementPasses (ContentPasses false) (λ i s d. (b : Bool) → ContentPasses b i s d)
  kept = record {
    if_empty = empty_step;
    if_full = λ {d = d} t v content u. full_step d t v content u;
    if_blank = λ {w = w} v tags c o os n rest few. after_pass list {xs = w} (blank-run list v) (tags false c o os n rest few);
    if_text = text_step;
    if_over = over-step;
    if_more = λ {d = d} x element content. more_step d x element content;
  }

  -- a form
  abbrev FormPasses : List ℕ → Element → Type 0
  FormPasses s e = Pass list (Keeps g 32 e × (0 + size e ≤ 4096)) start 0 s [] (state after (e · ε) [] (0 + size e))

  form_passes : {s : List ℕ} {e : Element} → Form names s e → FormPasses s e
  unfolding outside behind
  form_passes (form {w} {w'} {s} {e} v x u) =
      let root = subst (λ (i : ℕ). ElementAt names i s e) (sym (zero-add (length w))) x in
      after_pass list {xs = w} (before-run list v)
      (then_pass list {xs = s} (every_element kept root before root_open ε [] 0 (w' ++ []) (at-root list)) (λ y. y)
      (λ y. within y (after_run list u)))

  form_tag : {s : List ℕ} {e : Element} → Form names s e → is_text e ≡ false
  form_tag (form v x u) = element_tag x

  -- where its tree keeps the rules it is read as that tree; and only there
  pub form_taken : {s : List ℕ} {e : Element} → GoodForm names s e → form_of list s ≡ passes (e · ε)
  form_taken {s} {e} good = go (form_passes good.is_form)
    where
      go : FormPasses s e → form_of list s ≡ passes (e · ε)
      go (within y r) = form-read list good.short r
      go (beyond n r) = absurd (n (good.keeps.keeps, omega (arith, good.keeps.few)))

  pub form-keeps : {s : List ℕ} {e : Element} {d : Document} → Form names s e → scan list start 0 s ≡ passes d → Over g e
  form-keeps {s} {e} {d} is_form taken = go (form_passes is_form)
    where
      go : FormPasses s e → Over g e
      go (within (k, f) r) = record { root = form_tag is_form; keeps = k; few = omega arith }
      go (beyond n r) = absurd (refuses≢passes (sym (rw append-nil at r.says) ∙ taken))
