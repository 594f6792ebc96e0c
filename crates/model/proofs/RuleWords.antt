-- The words of rules that stand in a list: where the parts of each stand, and what its first two words tell.
use mathlib.Core.Path.{◌≡◌, refl, sym, ap, ◌∙◌, subst}
use mathlib.Core.Logic.{◌≢◌}
use mathlib.Core.Bool.{Bool, true, false}
use mathlib.Core.List.{List, [], ◌∷◌, ◌++◌, map}
use mathlib.Core.Option.{Option, none, some}
use Prim.Native.Nat.{ℕ, ◌+◌, ◌/◌, ◌%◌, ◌≤◌, ◌<◌}
use native.Mathlib.Omega.{arith}
use lib.ListN.{length, get_or, length-append, length-map}
use Rattle.model.specs.Lists.{has}
use Rattle.model.specs.Sheet.{Order, Step, Rule, one, two, three, W, mask, set_words, arc_word, order_words, count_words, rule_words}
use Rattle.model.specs.Sheet.{OrderInRange, CountInRange, IfAny}
use Rattle.model.specs.Spans.{WordsAt, OrderAt, CountAt, RuleAt, Content, content, there_is, map_of, ordered, counted, order_part}
use Rattle.model.specs.Spans.{count_part}
use Rattle.model.proofs.Spans.{word-there, word-here, word_next, span_left, span_right}
use Rattle.model.proofs.PartLaws.{words-end}

-- ---- order parts

-- an order part is as long as its arcs and four words more
pub order-room : {p a : ℕ} {s : List ℕ} {o : Order} → OrderAt p s a o → (a + 4 + length o.arcs ≤ length s) ×
    (get_or s (a + 3) 0 ≡ length o.arcs)
unfolding order_words set_words
order-room {o = o} h =
    let n = mask o.positions (has o.accepting) in
    let head : List ℕ = o.positions ∷ n % W ∷ n / W ∷ [] in
    let count = span_right head (length o.arcs ∷ map arc_word o.arcs) h.there in (
      omega (
        arith,
        word-there count,
        words-end h.there (omega (arith, word-there h.there)),
        h.there.ends,
        length-map o.arcs arc_word,
      ),
      word-here count,
    )

-- ---- content rules

pub content-words : (p : ℕ) (o : Option Order) (φ : Option (List Step)) (q : ℕ)
    → rule_words p (three o φ q) ≡ map_of (there_is o) (there_is φ) ∷ (order_part o ++ (count_part p φ ++ (q ∷ [])))
unfolding rule_words
content-words p none none q = refl
content-words p none (some ss) q = refl
content-words p (some o) none q = refl
content-words p (some o) (some ss) q = refl

pub is-there : {A : Type 0} (o : Option A) → there_is o ≡ true → (x : A) × (o ≡ some x)
is-there none e = let z : ◌≡◌ {A = ℕ} 0 1 = cc in absurd (omega arith)
is-there (some x) e = (x, refl)

pub not_there : {A : Type 0} (o : Option A) → there_is o ≡ false → o ≡ none
not_there none e = refl
not_there (some x) e = let z : ◌≡◌ {A = ℕ} 0 1 = cc in absurd (omega arith)

-- the parts of a content rule
module _ {p a : ℕ} {s : List ℕ} {o : Option Order} {φ : Option (List Step)} {q : ℕ} (h : RuleAt p s a (three o φ q)) where
  whole_words : WordsAt s a h.end (map_of (there_is o) (there_is φ) ∷ (order_part o ++ (count_part p φ ++ (q ∷ []))))
  whole_words = rw (content-words p o φ q) at h.there

  pub content-map : get_or s a 0 ≡ map_of (there_is o) (there_is φ)
  content-map = word-here whole_words

  pub is-ordered : {b : Bool} → ordered (get_or s a 0) ≡ b → there_is o ≡ b
  is-ordered e = sym (go (there_is o) (there_is φ)) ∙ sym (ap ordered content-map) ∙ e
    where
      go : (b c : Bool) → ordered (map_of b c) ≡ b
      go true true = refl
      go true false = refl
      go false true = refl
      go false false = refl

  pub is-counted : {b : Bool} → counted (get_or s a 0) ≡ b → there_is φ ≡ b
  is-counted e = sym (go (there_is o) (there_is φ)) ∙ sym (ap counted content-map) ∙ e
    where
      go : (b c : Bool) → counted (map_of b c) ≡ c
      go true true = refl
      go true false = refl
      go false true = refl
      go false false = refl

  abbrev parts : WordsAt s (a + 1) h.end (order_part o ++ (count_part p φ ++ (q ∷ [])))
  parts = word_next whole_words

  pub order-at : {x : Order} → o ≡ some x → OrderAt p s (a + 1) x
  order-at {x} e = record {
    end = a + 1 + length (order_part o);
    there = subst (WordsAt s (a + 1) (a + 1 + length (order_part o))) (ap order_part e)
        (span_left (order_part o) (count_part p φ ++ (q ∷ [])) parts);
    ranges = subst (IfAny (OrderInRange p)) e h.ranges.0;
  }

  -- by the code's test of the map
  pub has-order : {r : Bool} → r ≡ ordered (get_or s a 0) → r ≡ true → (x : Order) × (o ≡ some x) × OrderAt p s (a + 1) x
  has-order e t = let (x, i) = is-there o (is-ordered (sym e ∙ t)) in (x, i, order-at i)

  pub no_order : {r : Bool} → r ≡ ordered (get_or s a 0) → r ≡ false → o ≡ none
  no_order e t = not_there o (is-ordered (sym e ∙ t))

  -- an order part is as long as its arcs and four words more
  pub order-end : {r : Bool} → r ≡ ordered (get_or s a 0) → r ≡ true → (a + 5 + get_or s (a + 4) 0 ≡ a + 1 + length (order_part o)) ×
      (a + 5 + get_or s (a + 4) 0 ≤ length s)
  unfolding order_words set_words
  order-end er t =
      let (x, e, at) = has-order er t in
      let (room, count) = order-room at in
      let same : a + 1 + 3 ≡ a + 4 = omega arith in
      let arcs : get_or s (a + 4) 0 ≡ length x.arcs = rw same at count in
      (omega (arith, ap (λ (o : Option Order). length (order_part o)) e, length-map x.arcs arc_word), omega arith)

  pub order_absent : {r : Bool} → r ≡ ordered (get_or s a 0) → r ≡ false → a + 1 ≡ a + 1 + length (order_part o)
  order_absent er t = omega (arith, ap (λ (o : Option Order). length (order_part o)) (no_order er t))

  pub no_count : {r : Bool} → r ≡ counted (get_or s a 0) → r ≡ false → φ ≡ none
  no_count e t = not_there φ (is-counted (sym e ∙ t))

  module _ {c : ℕ} (at : c ≡ a + 1 + length (order_part o)) where
    after-order : WordsAt s c h.end (count_part p φ ++ (q ∷ []))
    after-order = rw at (span_right (order_part o) (count_part p φ ++ (q ∷ [])) parts)

    pub count-stands : {ss : List Step} → φ ≡ some ss → CountAt p s c ss
    count-stands {ss} e = record {
      end = c + length (count_part p φ);
      there = subst (WordsAt s c (c + length (count_part p φ))) (ap (count_part p) e) (span_left (count_part p φ) (q ∷ []) after-order);
      ranges = subst (IfAny (CountInRange p)) e h.ranges.1;
    }

    pub has-count : {r : Bool} → r ≡ counted (get_or s a 0) → r ≡ true → (ss : List Step) × (φ ≡ some ss) × CountAt p s c ss
    has-count e t = let (ss, i) = is-there φ (is-counted (sym e ∙ t)) in (ss, i, count-stands i)

    -- the target stands after the count part
    pub after-count : c + length (count_part p φ) + 1 ≡ a + length (rule_words p (three o φ q))
    after-count =
        omega (
          arith,
          ap length (content-words p o φ q),
          length-append (order_part o) (count_part p φ ++ (q ∷ [])),
          length-append (count_part p φ) (q ∷ []),
        )

    -- a rule with a count part ends after its steps, one without where the part would stand
    pub target-word : {t : ℕ} → t ≡ c + length (count_part p φ) → (t < length s) × (get_or s t 0 ≡ q)
    target-word e = let w = rw (sym e) at (span_right (count_part p φ) (q ∷ []) after-order) in (word-there w, word-here w)

  pub target-there : {t : ℕ} → t + 1 ≡ a + length (rule_words p (three o φ q)) → (t < length s) × (get_or s t 0 ≡ q)
  target-there e = target-word refl (omega (arith, after-count refl))

-- ---- rules of any kind

not-content : (ordered counted : Bool) → (map_of ordered counted ≢ 33) × (map_of ordered counted ≢ 38)
not-content true true = (omega arith, omega arith)
not-content true false = (omega arith, omega arith)
not-content false true = (omega arith, omega arith)
not-content false false = (omega arith, omega arith)

-- the words of a rule are at least two
rule-begins : (p : ℕ) (x : Rule) → (k m : ℕ) × (ws : List ℕ) × (rule_words p x ≡ k ∷ m ∷ ws)
unfolding rule_words order_words count_words
rule-begins p (one k q) = (_, _, _, refl)
rule-begins p (two g c q) = (_, _, _, refl)
rule-begins p (three none none q) = (_, _, _, refl)
rule-begins p (three none (some ss) q) = (_, _, _, refl)
rule-begins p (three (some o) none q) = (_, _, _, refl)
rule-begins p (three (some o) (some ss) q) = (_, _, _, refl)

-- a rule that is of content
pub record IsContent (p : ℕ) (s : List ℕ) (a : ℕ) (x : Rule) : Type 0 where
  pub fields : Content
  pub is : x ≡ content fields
  pub at : RuleAt p s a (content fields)

module _ {p a : ℕ} {s : List ℕ} where
  pub rule-there : {x : Rule} → RuleAt p s a x → (a + 1 < length s) × (a + length (rule_words p x) ≤ length s)
  rule-there {x} h =
      let (k, m, ws, e) = rule-begins p x in
      let l = word-there (word_next (rw e at h.there)) in
      (l, omega (arith, words-end h.there (omega arith), h.there.ends))

  -- the kind of a rule, by its map
  pub as_text : (x : Rule) → RuleAt p s a x → get_or s a 0 ≡ 33 → (k q : ℕ) × (x ≡ one k q)
  unfolding rule_words
  as_text (one k q) h e = (k, q, refl)
  as_text (two g c q) h e = absurd (omega (arith, word-here h.there))
  as_text (three o φ q) h e = absurd ((not-content (there_is o) (there_is φ)).0 (sym (content-map h) ∙ e))

  pub as_tag : (x : Rule) → RuleAt p s a x → get_or s a 0 ≡ 38 → (g c q : ℕ) × (x ≡ two g c q)
  unfolding rule_words
  as_tag (one k q) h e = absurd (omega (arith, word-here h.there))
  as_tag (two g c q) h e = (g, c, q, refl)
  as_tag (three o φ q) h e = absurd ((not-content (there_is o) (there_is φ)).1 (sym (content-map h) ∙ e))

  pub as_content : (x : Rule) → RuleAt p s a x → get_or s a 0 ≢ 33 → get_or s a 0 ≢ 38 → IsContent p s a x
  unfolding rule_words
  as_content (one k q) h e f = absurd (e (word-here h.there))
  as_content (two g c q) h e f = absurd (f (word-here h.there))
  as_content (three o φ q) h e f = record { fields = record { order = o; count = φ; target = q }; is = refl; at = h }

  -- where the last word of a rule stands
  pub text_end : (x : Rule) → RuleAt p s a x → get_or s a 0 ≡ 33 → a + 2 + 1 ≡ a + length (rule_words p x)
  unfolding rule_words
  text_end x h e = let (k, q, i) = as_text x h e in omega (arith, ap (λ (x : Rule). length (rule_words p x)) i)

  pub tag_end : (x : Rule) → RuleAt p s a x → get_or s a 0 ≡ 38 → a + 3 + 1 ≡ a + length (rule_words p x)
  unfolding rule_words
  tag_end x h e = let (g, c, q, i) = as_tag x h e in omega (arith, ap (λ (x : Rule). length (rule_words p x)) i)

-- ---- keys

-- the first two words of a rule of a text, and of a tag
pub text_key : {p a k q : ℕ} {s : List ℕ} → RuleAt p s a (one k q) → (get_or s a 0 ≡ 33) × (get_or s (a + 1) 0 ≡ k)
unfolding rule_words
text_key h = (word-here h.there, word-here (word_next h.there))

pub tag_key : {p a g c q : ℕ} {s : List ℕ} → RuleAt p s a (two g c q) → (get_or s a 0 ≡ 38) × (get_or s (a + 1) 0 ≡ g)
unfolding rule_words
tag_key h = (word-here h.there, word-here (word_next h.there))
