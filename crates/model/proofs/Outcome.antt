-- What the targets of a node and their reached say of the transition relation.
use mathlib.Core.Path.{◌≡◌, refl, sym, ap, ap₂, ◌∙◌, subst}
use mathlib.Core.Logic.{◌⊎◌, inl, inr, ◌↔◌, ◌≢◌}
use mathlib.Core.Bool.{Bool, true, false, ◌&&◌}
use mathlib.Core.List.Memᴰ
use mathlib.Core.List.{List, [], ◌∷◌, flat_map}
use mathlib.Core.Option.{Option, none, some}
use Prim.Native.Nat.{ℕ}
use lib.Dec.{eqb}
use Rattle.model.specs.Lists.{◌∈◌, has}
use Rattle.model.specs.Tree.{Span, Element, text, tag, Document, ε, ◌·◌, nodes, nodesD}
use Rattle.model.specs.Sheet.{Sheet, Rule, one, two, three, Order, Step, InRange}
use Rattle.model.specs.Words.{InLanguage, Satisfied, fits_order, fits_count}
use Rattle.model.specs.Relation.{NotOne, To, type_1, type_2, ToD, lone, type_3, Each, no_more, more, AtMostOne, ReachesTwo, Single}
use Rattle.model.specs.Relation.{NoState}
use Rattle.model.specs.Run.{at_text, at_content, at_tag, text_targets, content_targets, element_targets, Reached, nothing, just}
use Rattle.model.specs.Run.{several, if_same, and_also, gist}
use Rattle.model.proofs.Tests.{Yes, and_yes, and_left, and_right, same, eqb_yes, eqb_no}
use Rattle.model.proofs.ListLaws.{∈-has, has-∈, ∈-only, only_test, only_eq, ∈-each, each-∈}
use Rattle.model.proofs.WordLaws.{order-fits, count_fits}

-- ---- a list of states, by its reached

abbrev pub Gist : List ℕ → Reached → Type 0
Gist l nothing = (q : ℕ) → q ∈ l → ⊥
Gist l (just q) = (q ∈ l) × ((r : ℕ) → r ∈ l → r ≡ q)
Gist l several = (q r : ℕ) × (q ∈ l) × (r ∈ l) × (q ≢ r)

gist-add : (q : ℕ) (l : List ℕ) (g : Reached) → Gist l g → Gist (q ∷ l) (and_also q g)
unfolding and_also
gist-add q l nothing f = (Memᴰ.head refl, λ r m. go r (Memᴰ.cases_cons m))
  where
    go : (r : ℕ) → (r ≡ q) ⊎ (r ∈ l) → r ≡ q
    go r (inl e) = e
    go r (inr m) = absurd (f r m)
gist-add q l (just r) (m, f) = go (eqb q r) refl
  where
    go : (b : Bool) → eqb q r ≡ b → Gist (q ∷ l) (if_same b r)
    go true e = (Memᴰ.tail m, λ x n. at x (Memᴰ.cases_cons n))
      where
        at : (x : ℕ) → (x ≡ q) ⊎ (x ∈ l) → x ≡ r
        at x (inl i) = i ∙ same q r e
        at x (inr n) = f x n
    go false e = (q, r, Memᴰ.head refl, Memᴰ.tail m, eqb_no e)
gist-add q l several (r, s, m, n, d) = (r, s, Memᴰ.tail m, Memᴰ.tail n, d)

pub gist-is : (l : List ℕ) → Gist l (gist l)
unfolding gist
gist-is [] = λ q m. Memᴰ.not-nil m
gist-is (q ∷ l) = gist-add q l (gist l) (gist-is l)

-- ---- lists in which no node reaches two states

pub single_nil : {R : List Rule} → Single R []
single_nil f m = absurd (Memᴰ.not-nil m)

pub single_cons : {R : List Rule} {f : Element} {l : List Element} → AtMostOne R f → Single R l → Single R (f ∷ l)
single_cons {R} {f} {l} h s g m = go (Memᴰ.cases_cons m)
  where
    go : (g ≡ f) ⊎ (g ∈ l) → AtMostOne R g
    go (inl e) = subst (AtMostOne R) (sym e) h
    go (inr n) = s g n

-- an element is among its nodes
pub root-∈ : (e : Element) → e ∈ nodes e
unfolding nodes
root-∈ (text k w) = Memᴰ.head refl
root-∈ (tag a w d) = Memᴰ.head refl

module _ {R : List Rule} where
  -- ---- what a transition comes from

  pub text_inv : {k q : ℕ} {w : Span} → To R (text k w) q → one k q ∈ R
  text_inv (type_1 m) = m

  pub tag_inv : {a q : ℕ} {w : Span} {d : Document} → To R (tag a w d) q → (c : ℕ) × ToD R d c × (two a c q ∈ R)
  tag_inv (type_2 {c = c} h m) = (c, h, m)

  pub nil_inv : {w : List ℕ} → Each R ε w → w ≡ []
  nil_inv no_more = refl

  pub cons_inv : {e : Element} {d : Document} {w : List ℕ} → Each R (e · d) w → (q : ℕ) × (v : List ℕ) × (w ≡ q ∷ v) × To R e q × Each R d v
  cons_inv (more {q = q} {w = v} h r) = (q, v, refl, h, r)

  pub lone_inv : {e : Element} {q : ℕ} → ToD R (e · ε) q → To R e q
  lone_inv (lone h) = h
  lone_inv (type_3 n r i t m) = absurd n

  pub type_3_inv : {d : Document} {q : ℕ} → NotOne d → ToD R d q
      → (w : List ℕ) × (o : Option Order) × (c : Option (List Step)) × Each R d w × InLanguage o w × Satisfied c w ×
      (three o c q ∈ R)
  type_3_inv n (lone h) = absurd n
  type_3_inv n (type_3 {w = w} {o = o} {c = c} k r i t m) = (w, o, c, r, i, t, m)

  -- where no node reaches two states, the elements' states are one word
  pub each_unique : (d : Document) {w v : List ℕ} → Single R (nodesD d) → Each R d w → Each R d v → w ≡ v
  unfolding nodesD
  each_unique ε s r t = nil_inv r ∙ sym (nil_inv t)
  each_unique (e · d) s r t =
      let (q, w, i, h, r') = cons_inv r in
      let (p, v, j, k, t') = cons_inv t in
      let heads : q ≡ p = s e (Memᴰ.append_left (nodesD d) (root-∈ e)) q p h k in
      let tails : w ≡ v = each_unique d (λ f m. s f (Memᴰ.append_right (nodes e) m)) r' t' in
      cc

  -- ---- a text reaches its targets

  pub text_reaches : {k : ℕ} {w : Span} (q : ℕ) → (q ∈ text_targets R k) ↔ To R (text k w) q
  unfolding text_targets at_text
  text_reaches {k} {w} q = (
    λ m. let (r, n, t) = each-∈ (at_text k) R m in go r n t,
    λ h. ∈-each (at_text k) (text_inv h) (∈-only (eqb k k) q (eqb_yes {m = k} refl)),
  )
    where
      go : (r : Rule) → r ∈ R → q ∈ at_text k r → To R (text k w) q
      go (one j p) n t = type_1 (Memᴰ.cast (ap₂ one (sym (same j k (only_test (eqb j k) p t))) (only_eq (eqb j k) p t)) n)
      go (two b c p) n t = absurd (Memᴰ.not-nil t)
      go (three o c p) n t = absurd (Memᴰ.not-nil t)

  -- content that isn't one element has the targets of the kind-three rules
  by_rules : (d : Document) {w : List ℕ} → NotOne d → Each R d w → content_targets R w ≡ flat_map (at_content w) R
  unfolding content_targets
  by_rules ε n no_more = refl
  by_rules (e · ε) n r = absurd n
  by_rules (e · f · d) n (more h (more k r)) = refl

-- what the child states say of content: a child has no state; or these are the children's
abbrev pub ContentSays : List Rule → Document → Option (List ℕ) → Type 0
ContentSays R d none = (w : List ℕ) → Each R d w → ⊥
ContentSays R d (some w) = Each R d w

module _ {s : Sheet} (ok : InRange s) where
  abbrev R : List Rule
  R = s.rules

  -- the test of a rule's count part tells whether a word satisfies it
  counts : {o : Option Order} {c : Option (List Step)} {q : ℕ} (w : List ℕ) → three o c q ∈ R → Yes (fits_count c w) ↔ Satisfied c w
  counts {c = c} w m = count_fits s.states c w (ok.rules _ m).1

  -- ---- content reaches the targets of the words of its elements' states

  fitting_reaches : {d : Document} {w : List ℕ} {q : ℕ} → NotOne d → Each R d w → q ∈ flat_map (at_content w) R → ToD R d q
  unfolding at_content
  fitting_reaches {d} {w} {q} u e m = let (r, n, t) = each-∈ (at_content w) R m in go r n t
    where
      go : (r : Rule) → r ∈ R → q ∈ at_content w r → ToD R d q
      go (one j p) n t = absurd (Memᴰ.not-nil t)
      go (two b c p) n t = absurd (Memᴰ.not-nil t)
      go (three o c p) n t =
          let b : Yes (fits_order o w && fits_count c w) = only_test _ p t in
          type_3 u e ((order-fits o w).0 (and_left _ _ b)) ((counts w n).0 (and_right (fits_order o w) _ b))
          (Memᴰ.cast (ap (three o c) (only_eq _ p t)) n)

  pub content-∈ : (d : Document) {w : List ℕ} {c : ℕ} → Each R d w → c ∈ content_targets R w → ToD R d c
  unfolding content_targets
  content-∈ ε no_more m = fitting_reaches tt no_more m
  content-∈ (e · ε) (more h no_more) m = lone (subst (To R e) (sym (Memᴰ.eq_of_singleton m)) h)
  content-∈ (e · f · d) (more h (more k r)) m = fitting_reaches tt (more h (more k r)) m

  pub ∈-content : (d : Document) {c : ℕ} → ToD R d c → (w : List ℕ) × Each R d w × (c ∈ content_targets R w)
  unfolding content_targets at_content
  ∈-content d (lone {q = q} h) = (q ∷ [], more h no_more, Memᴰ.head refl)
  ∈-content d {c} (type_3 {w = w} {o = o} {c = φ} n r i t m) =
      let fits = ∈-only (fits_order o w && fits_count φ w) c (and_yes ((order-fits o w).1 i) ((counts w m).1 t)) in
      (w, r, subst (λ l. c ∈ l) (sym (by_rules d n r)) (∈-each (at_content w) m fits))

  -- ---- an element reaches the targets of its content's states

  element_∈ : {a q : ℕ} {w : Span} {d : Document} {v : List ℕ} → Each R d v → q ∈ element_targets R a (some v) → To R (tag a w d) q
  unfolding element_targets at_tag
  element_∈ {a} {q} {w} {d} {v} e m = let (r, n, t) = each-∈ (at_tag a (content_targets R v)) R m in go r n t
    where
      go : (r : Rule) → r ∈ R → q ∈ at_tag a (content_targets R v) r → To R (tag a w d) q
      go (one j p) n t = absurd (Memᴰ.not-nil t)
      go (two b c p) n t =
          let y : Yes (eqb b a && has (content_targets R v) c) = only_test _ p t in
          type_2 (content-∈ d e (has-∈ _ (and_right (eqb b a) _ y)))
          (Memᴰ.cast (ap₂ (λ x z. two x c z) (sym (same b a (and_left _ _ y))) (only_eq _ p t)) n)
      go (three o c p) n t = absurd (Memᴰ.not-nil t)

  ∈_element : {a q : ℕ} {w : Span} {d : Document} {v : List ℕ} → Single R (nodesD d) → Each R d v → To R
      (tag a w d) q → q ∈ element_targets R a (some v)
  unfolding element_targets at_tag
  ∈_element {a} {q} {d = d} {v = v} s r h =
      let (c, k, m) = tag_inv h in
      let (u, t, n) = ∈-content d k in
      let i : c ∈ content_targets R v = subst (λ l. c ∈ content_targets R l) (each_unique d s t r) n in
      ∈-each (at_tag a (content_targets R v)) m
      (∈-only (eqb a a && has (content_targets R v) c) q (and_yes (eqb_yes {m = a} refl) (∈-has i)))

  pub element_reaches : {a : ℕ} {w : Span} {d : Document} (c : Option (List ℕ)) → Single R (nodesD d) → ContentSays R d c
      → (q : ℕ) → (q ∈ element_targets R a c) ↔ To R (tag a w d) q
  unfolding element_targets
  element_reaches {d = d} none s f q =
      (λ m. absurd (Memᴰ.not-nil m), λ h. let (c, k, m) = tag_inv h in let (v, r, n) = ∈-content d k in absurd (f v r))
  element_reaches (some v) s r q = (λ m. element_∈ r m, λ h. ∈_element s r h)

-- ---- what the reached of its targets says of a node

abbrev pub Says : List Rule → Element → Reached → Type 0
Says R f nothing = NoState R f
Says R f (just q) = To R f q × AtMostOne R f
Says R f several = ReachesTwo R f

pub gist-says : {R : List Rule} {f : Element} (l : List ℕ) → ((q : ℕ) → (q ∈ l) ↔ To R f q) → Says R f (gist l)
gist-says {R} {f} l reaches = go (gist l) (gist-is l)
  where
    go : (g : Reached) → Gist l g → Says R f g
    go nothing n = λ q h. n q ((reaches q).1 h)
    go (just q) (m, u) = ((reaches q).0 m, λ p r h k. u p ((reaches p).1 h) ∙ sym (u r ((reaches r).1 k)))
    go several (q, r, m, n, d) = (q, r, (reaches q).0 m, (reaches r).0 n, d)
