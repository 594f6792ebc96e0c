-- The run on the nodes of a tree says what the transition relation gives, and its looks are at most 2 × nodes × rules.
use mathlib.Core.Path.{◌≡◌, refl, sym, ap, ◌∙◌}
use mathlib.Core.Logic.{◌↔◌}
use mathlib.Core.Bool.{Bool, false}
use mathlib.Core.List.Memᴰ
use mathlib.Core.List.{List, [], ◌∷◌, ◌++◌, map, append_assoc, append-nil}
use mathlib.Core.Option
use mathlib.Core.Option.{Option, none, some}
use Prim.Native.Nat.{ℕ, zero, suc, ◌+◌, ◌-◌, ◌*◌, ◌≤◌}
use native.Mathlib.Nat.{zero-add, suc-add}
use native.Mathlib.Omega.{arith}
use lib.ListN.{length}
use borrow.Author.Tests.{lt-ltb, le-ltb}
use Rattle.model.specs.Lists.{◌∈◌}
use Rattle.model.specs.Tree.{Span, Element, text, tag, Document, ε, ◌·◌, size, sizeD, nodes, nodesD, words, wordsD, is_text, Keeps}
use Rattle.model.specs.Tree.{KeepsD, Over}
use Rattle.model.specs.Sheet.{Sheet, Rule, InRange}
use Rattle.model.specs.Relation.{To, Each, no_more, more, AtMostOne, ReachesTwo, Single, StateWord, StatesOf, no_words, a_word}
use Rattle.model.specs.Relation.{Highest}
use Rattle.model.specs.Run.{text_targets, element_targets, of_kind, element_looks, Reached, nothing, just, several, gist, Item}
use Rattle.model.specs.Run.{items, child_words, child_states, Ran, ran, two_at, put, judge_text, judge_element, judge_node, run}
use Rattle.model.proofs.ListLaws.{map-append}
use Rattle.model.proofs.Outcome.{single_nil, single_cons, cons_inv, text_reaches, ContentSays, element_reaches, Says, gist-says}
use Rattle.model.proofs.TreeLaws.{length-nodes, length-nodesD}
use Rattle.model.proofs.Places.{highest_here, highest_later}
use Rattle.model.proofs.Looks.{kinds, element_looks_≤}

-- ---- trees whose symbols tell texts from tags

-- texts have a kind, and tags are at most 64
abbrev mutual
  pub Formed : Element → Type 0
  Formed (text k w) = 1 ≤ k
  Formed (tag a w d) = (a ≤ 64) × FormedD d

  pub FormedD : Document → Type 0
  FormedD ε = Unit {0}
  FormedD (e · d) = Formed e × FormedD d

module _ (g : ℕ) (few : g ≤ 64) where
  mutual
    keeps_formed : (levels : ℕ) (e : Element) → Keeps g levels e → Formed e
    keeps_formed levels (text k w) (at_least_lem, at_most) = at_least_lem
    keeps_formed levels (tag a w d) (at_least_lem, at_most, deep, keeps) = (omega arith, keeps_formedD (levels - 1) false d keeps)

    keeps_formedD : (levels : ℕ) (after_text : Bool) (d : Document) → KeepsD g levels after_text d → FormedD d
    keeps_formedD levels after_text ε k = tt
    keeps_formedD levels after_text (e · d) (apart, k, ks) = (keeps_formed levels e k, keeps_formedD levels (is_text e) d ks)

  pub over_formed : (e : Element) → Over g e → Formed e
  over_formed e o = keeps_formed 32 e o.keeps

-- ---- the items of a tree

-- a node as the run looks at it
item : Element → Item
item (text k w) = record { symbol = 64 + k; size = 1 }
item (tag a w d) = record { symbol = a; size = suc (sizeD d) }

mutual
  unfolding nodes words items item

  items-front : (e : Element) (t : List ℕ) → items (words e ++ t) ≡ map item (nodes e) ++ items t
  items-front (text k w) t = refl
  items-front (tag a w d) t = ap (λ l. item (tag a w d) ∷ l) (items_frontD d t)

  items_frontD : (d : Document) (t : List ℕ) → items (wordsD d ++ t) ≡ map item (nodesD d) ++ items t
  items_frontD ε t = refl
  items_frontD (e · d) t =
      rw (append_assoc (words e) (wordsD d) t, items-front e (wordsD d ++ t), items_frontD d t, map-append item (nodes e) (nodesD d))
      (sym (append_assoc (map item (nodes e)) (map item (nodesD d)) (items t)))

items_of : (e : Element) → items (words e) ≡ map item (nodes e)
unfolding items
items_of e = ap items (sym (append-nil (words e))) ∙ items-front e [] ∙ append-nil (map item (nodes e))

-- ---- the children of an element

elements : Document → List Element
elements ε = []
elements (e · d) = e ∷ elements d

less_one : (n : ℕ) → suc n - 1 ≡ n
less_one n = omega arith

module _ {R : List Rule} where
  -- nodes inside the last child are passed over
  passed_over : (l m : List Element) (n : ℕ) {st : List ℕ} → StatesOf R (l ++ m) st
      → (rest : List ℕ) × StatesOf R m rest ×
      (child_words (length l + n) (length l) (map item (l ++ m)) st ≡ child_words n 0 (map item m) rest)
  unfolding child_words
  passed_over [] m n {st} t = (st, t, rw (zero-add n))
  passed_over (f ∷ l) m n (a_word h t) = let (rest, r, e) = passed_over l m n t in (rest, r, rw (suc-add (length l) n) e)

  -- a child, the nodes inside it, and the other children
  first_child : (f : Element) (l m : List Element) (n s : ℕ) {es : List Element} {st : List ℕ} → (item f).size ≡ suc (length l)
      → StateWord R f s → StatesOf R (l ++ m) st
      → ((rest : List ℕ) → StatesOf R m rest → StatesOf R es (child_words n 0 (map item m) rest))
      → StatesOf R (f ∷ es) (child_words (suc (length l) + n) 0 (map item (f ∷ (l ++ m))) (s ∷ st))
  unfolding child_words
  first_child f l m n s e h t others =
      let (rest, r, p) = passed_over l m n t in
      rw (suc-add (length l) n, e, less_one (length l), p) (a_word {s = s} h (others rest r))

  -- so the children's words are found
  children-words : (d : Document) (m : List Element) {st : List ℕ} → StatesOf R (nodesD d ++ m) st
      → StatesOf R (elements d) (child_words (sizeD d) 0 (map item (nodesD d ++ m)) st)
  unfolding child_words nodesD sizeD elements item
  children-words ε m t = no_words
  children-words (text k w · d) m (a_word {s = s} h t) = first_child (text k w) [] (nodesD d ++ m) (sizeD d) s refl h t
      (λ rest r. children-words d m r)
  children-words (tag a w c · d) m (a_word {s = s} h t) =
      let inside : StatesOf R (nodesD c ++ (nodesD d ++ m)) _ = rw (append_assoc (nodesD c) (nodesD d) m) at t in
      let all = first_child (tag a w c) (nodesD c) (nodesD d ++ m) (sizeD d) s (ap suc (sym (length-nodesD c))) h inside
      (λ rest r. children-words d m r) in
      rw (append_assoc (nodesD c) (nodesD d) m) (rw (length-nodesD c) at all)

  -- and their states, where every child has one
  children_say : (d : Document) {ws : List ℕ} → StatesOf R (elements d) ws → ContentSays R d (child_states ws)
  unfolding elements child_states
  children_say ε no_words = no_more
  children_say (e · d) (a_word {s = zero} h t) = λ w r. let (q, v, i, k, rest) = cons_inv r in h q k
  children_say (e · d) (a_word {s = suc q} {st = ws} h t) = go (child_states ws) (children_say d t)
    where
      go : (c : Option (List ℕ)) → ContentSays R d c → ContentSays R (e · d) (Option.map (λ w. q ∷ w) c)
      go none f = λ w r. let (p, v, i, k, rest) = cons_inv r in f v rest
      go (some w) r = more h r

-- its looks
length-each : {R : List Rule} (d : Document) {w : List ℕ} → Each R d w → length w ≡ length (elements d)
unfolding elements
length-each ε no_more = refl
length-each (e · d) (more h r) = ap suc (length-each d r)

looks_≤ : (R : List Rule) (d : Document) (c : Option (List ℕ)) → ContentSays R d c → element_looks R c ≤ of_kind 3 R * suc
    (length (elements d)) + of_kind 2 R
unfolding element_looks
looks_≤ R d none f = omega arith
looks_≤ R d (some w) r = rw (length-each d r) at (element_looks_≤ R w)

-- ---- the run

-- the nodes of n elements side by side, each tag followed by the nodes of its content
data Forest : ℕ → List Element → Type 0 where
  bare : Forest 0 []
  with_text : {n k : ℕ} {w : Span} {l : List Element} → 1 ≤ k → Forest n l → Forest (suc n) (text k w ∷ l)
  with_tag : {n a : ℕ} {w : Span} {d : Document} (l : List Element) → a ≤ 64 → Forest (length (elements d) + n) (nodesD d ++ l)
      → Forest (suc n) (tag a w d ∷ (nodesD d ++ l))

-- the nodes of an element, of a document, in front of others
mutual
  unfolding nodes elements

  forest : (e : Element) → Formed e → {n : ℕ} {l : List Element} → Forest n l → Forest (suc n) (nodes e ++ l)
  forest (text k w) h t = with_text h t
  forest (tag a w d) (h, hd) {l = l} t = with_tag l h (forestD d hd t)

  forestD : (d : Document) → FormedD d → {n : ℕ} {l : List Element} → Forest n l → Forest (length (elements d) + n) (nodesD d ++ l)
  forestD ε h {n} t = rw (zero-add n) t
  forestD (e · d) (h, hd) {n} {l} t = rw (suc-add (length (elements d)) n, append_assoc (nodes e) (nodesD d) l)
      (forest e h (forestD d hd t))

module _ (R : List Rule) where
  -- What the run says of the nodes of n elements. The bound leaves room for every kind-three rule to read each of these once.
  abbrev Judged : ℕ → List Element → Ran → Type 0
  Judged n l (ran st m) = Single R l × StatesOf R l st × (m + of_kind 3 R * n ≤ 2 * length l * length R)
  Judged n l (two_at i) = Highest (ReachesTwo R) (AtMostOne R) l i

  -- a node in front, which reaches its targets
  put_judged : (n looks m : ℕ) (f : Element) {l : List Element} {st : List ℕ} (targets : List ℕ) → ((q : ℕ) → (q ∈ targets) ↔ To R f q)
      → Single R l → StatesOf R l st → looks + m + of_kind 3 R * n ≤ 2 * suc (length l) * length R → Judged n (f ∷ l)
      (put (gist targets) looks st m)
  put_judged n looks m f {l} {st} targets reaches s t b = go (gist targets) (gist-says targets reaches)
    where
      go : (g : Reached) → Says R f g → Judged n (f ∷ l) (put g looks st m)
      go nothing h = (single_cons (λ q r i _. absurd (h q i)) s, a_word {s = zero} h t, b)
      go (just q) (h, u) = (single_cons u s, a_word {s = suc q} h t, b)
      go several h = highest_here h s

  text_judged : (n k : ℕ) (w : Span) (l : List Element) → 1 ≤ k → (r : Ran) → Judged n l r
      → Judged (suc n) (text k w ∷ l) (judge_node R (item (text k w)) (map item l) r)
  unfolding judge_node judge_text item
  text_judged n k w l h (ran st m) (s, t, b) =
      let e : 64 + k - 64 ≡ k = omega arith in
      rw (lt-ltb 64 (64 + k) (omega arith), e)
      (put_judged (suc n) (of_kind 1 R) m (text k w) (text_targets R k) text_reaches s t (omega (arith, kinds R)))
  text_judged n k w l h (two_at i) t = highest_later t

module _ (s : Sheet) (ok : InRange s) where
  abbrev R : List Rule
  R = s.rules

  tag_judged : (n a : ℕ) (w : Span) (d : Document) (l : List Element) → a ≤ 64 → (r : Ran) → Judged R (length (elements d) + n)
      (nodesD d ++ l) r
      → Judged R (suc n) (tag a w d ∷ (nodesD d ++ l)) (judge_node R (item (tag a w d)) (map item (nodesD d ++ l)) r)
  unfolding judge_node judge_element item
  tag_judged n a w d l h (ran st m) (single, t, b) =
      let c = child_states (child_words (sizeD d) 0 (map item (nodesD d ++ l)) st) in
      let says : ContentSays R d c = children_say d (children-words d l t) in
      let reaches = element_reaches ok {a = a} {w = w} c (λ f i. single f (Memᴰ.append_left l i)) says in
      rw (le-ltb 64 a h, less_one (sizeD d))
      (put_judged R (suc n) (element_looks R c) m (tag a w d) (element_targets R a c) reaches single t
      (omega (arith, kinds R, looks_≤ R d c says)))
  tag_judged n a w d l h (two_at i) t = highest_later t

  judged : {n : ℕ} {l : List Element} → Forest n l → Judged R n l (run R (map item l))
  unfolding run
  judged bare = (single_nil, no_words, omega arith)
  judged (with_text {n = n} {k = k} {w = w} {l = l} h t) = text_judged R n k w l h (run R (map item l)) (judged t)
  judged (with_tag {n = n} {a = a} {w = w} {d = d} l h t) = tag_judged n a w d l h (run R (map item (nodesD d ++ l))) (judged t)

-- What the run says of a tree: no node reaches two states, and these are the nodes' state words; or which is the highest-numbered node
-- that reaches two.
abbrev pub RunSays : List Rule → Element → Ran → Type 0
RunSays R e (ran st m) = Single R (nodes e) × StatesOf R (nodes e) st × (m ≤ 2 * size e * length R)
RunSays R e (two_at i) = Highest (ReachesTwo R) (AtMostOne R) (nodes e) i

pub run-says : (s : Sheet) → InRange s → (e : Element) → Formed e → RunSays s.rules e (run s.rules (items (words e)))
run-says s ok e h = rw (items_of e)
    (go (run s.rules (map item (nodes e))) (judged s ok (rw (append-nil (nodes e)) at (forest e h bare))))
  where
    go : (r : Ran) → Judged s.rules 1 (nodes e) r → RunSays s.rules e r
    go (ran st m) (u, t, b) = (u, t, omega (arith, ap (λ (n : ℕ). 2 * n * length s.rules) (length-nodes e)))
    go (two_at i) t = t
