-- The kind of a rule by its map, with the numbers of each kind; along the chain of a key, what each rule adds to a set of targets; and
-- what an element reaches.
use mathlib.Core.Path.{◌≡◌, refl, ap, ◌∙◌}
use Rattle.std.specs.Int.{from_bool}
use mathlib.Core.Bool.{Bool, true, false, cond, ◌&&◌, ◌||◌, and-false}
use mathlib.Core.List.{List, [], ◌∷◌, flat_map}
use mathlib.Core.Option.{none, some}
use mathlib.Core.Logic.{◌≢◌}
use Prim.Native.Nat.{ℕ, zero, suc, ◌+◌, ◌≤◌, ◌<◌}
use native.Mathlib.Omega.{arith}
use lib.Dec.{eqb}
use lib.ListN.{length, get_or}
use Rattle.model.specs.Bytes.{text_kind}
use Rattle.model.specs.declared.TextKind.{TextKind}
use Rattle.model.specs.declared.TextKind.TheVariants.{Integer, Other}
use Rattle.model.specs.Sheet.{Rule, one, two, three, mask, bit, rule_words}
use Rattle.model.specs.Run.{kind, of_kind, at_text, at_tag}
use Rattle.model.specs.Spans.{RuleAt, counted}
use Rattle.model.specs.Index.{rules_in, nth, Indexed, key}
use Rattle.model.specs.Lists.{has, only}
use Rattle.model.proofs.PassedLaws.{in_range}
use Rattle.model.proofs.RuleWords.{text_key, tag_key, content-map}
use Rattle.model.proofs.Tests.{eqb_yes, eqb-false}
use Rattle.model.proofs.PartLaws.{word-within, word-is}
use Rattle.bits.specs.Stands.{Stands}
use Rattle.bits.proofs.SetLaws.{none_stands, stands_none, stands-some, Gathers, gathers_none, gathers_more, gathers_all}
use Rattle.indexed.specs.declared.Spot.{Spot}
use Rattle.indexed.specs.declared.Chain.{Chain}
use Rattle.indexed.specs.Rules.{rule_of}
use Rattle.indexed.specs.Walks.{with_key, chain_left, ChainNext}
use Rattle.indexed.proofs.SpotLaws.{stands}
use Rattle.indexed.proofs.WalkLaws.{with_key-all}
use Rattle.judge_rules.specs.Rules.{with_count, of_count, RulesOf, at_tag_with}
use Rattle.judge_rules.specs.Found.{TagFinds}
use Rattle.judge_rules.specs.declared.numbers.Rules.{Rules}
use Rattle.judge_rules.specs.declared.targets.Found.{Found}

-- what a rule's map tells of it
pub record Kinds (map : ℕ) (x : Rule) : Type 0 where
  pub text : eqb map 33 ≡ eqb (kind x) 1
  pub tag : eqb map 38 ≡ eqb (kind x) 2
  pub count : counted map ≡ with_count x

pub kinds : {p a : ℕ} {s : List ℕ} (x : Rule) → RuleAt p s a x → Kinds (get_or s a 0) x
unfolding kind with_count
kinds (one k q) h = rw (text_key h).0 (record { text = refl; tag = refl; count = refl })
kinds (two g c q) h = rw (tag_key h).0 (record { text = refl; tag = refl; count = refl })
kinds (three none none q) h = rw (content-map h) (record { text = refl; tag = refl; count = refl })
kinds (three none (some ss) q) h = rw (content-map h) (record { text = refl; tag = refl; count = refl })
kinds (three (some o) none q) h = rw (content-map h) (record { text = refl; tag = refl; count = refl })
kinds (three (some o) (some ss) q) h = rw (content-map h) (record { text = refl; tag = refl; count = refl })

-- a rule with a count part is among them
pub count-some : (R : List Rule) (i : ℕ) → i < length R → with_count (nth R i) ≡ true → 0 < of_count R
unfolding of_count
count-some [] i l e = absurd (omega arith)
count-some (r ∷ R) zero l e = rw e (omega arith)
count-some (r ∷ R) (suc i) l e = omega (arith, count-some R i (omega arith) e)

-- a flag as a number
pub one_if : (b : Bool) {n : ℕ} → n ≡ from_bool b → (n ≡ cond b 1 0) × (n ≤ 1)
one_if true e = (e, omega arith)
one_if false e = (e, omega arith)

at_most_one : (b : Bool) → cond b 1 0 ≤ 1
at_most_one true = omega arith
at_most_one false = omega arith

-- rules of one kind, or with a count part, are among all
kind_few : (k : ℕ) (R : List Rule) → of_kind k R ≤ length R
unfolding of_kind
kind_few k [] = omega arith
kind_few k (r ∷ R) = omega (arith, at_most_one (eqb (kind r) k), kind_few k R)

count_few : (R : List Rule) → of_count R ≤ length R
unfolding of_count
count_few [] = omega arith
count_few (r ∷ R) = omega (arith, at_most_one (with_count r), count_few R)

-- the numbers so far, with those of the rules that are left, make all
pub record Numbering (R left : List Rule) (ones twos counts : ℕ) : Type 0 where
  pub all : length R ≤ 1024
  pub texts : ones + of_kind 1 left ≡ of_kind 1 R
  pub tags : twos + of_kind 2 left ≡ of_kind 2 R
  pub counting : counts + of_count left ≡ of_count R

pub numbering_none : {s index : List ℕ} → Indexed s index → Numbering (rules_in s) (rules_in s) 0 0 0
numbering_none h = record { all = (in_range h.sheet).few_rules; texts = omega arith; tags = omega arith; counting = omega arith }

module _ {R left : List Rule} {ones twos counts : ℕ} (g : Numbering R left ones twos counts) where
  pub numbering_few : (ones ≤ 1024) × (twos ≤ 1024) × (counts ≤ 1024)
  numbering_few = (
    omega (arith, g.all, g.texts, kind_few 1 R),
    omega (arith, g.all, g.tags, kind_few 2 R),
    omega (arith, g.all, g.counting, count_few R),
  )

  -- the rule in hand, before the others
  pub numbering_more : (x : Spot) {rest : List Rule} → left ≡ rule_of x ∷ rest → {map one two three : ℕ} {b : Bool}
      → map ≡ get_or x.sheet.words.now x.at 0 → one ≡ from_bool (eqb map 33) → two ≡ from_bool (eqb map 38) → b ≡ counted map
      → three ≡ from_bool b → Numbering R rest (ones + one) (twos + two) (counts + three)
  unfolding of_kind of_count
  numbering_more x e {map = map} {b = b} em d₁ d₂ ec d₃ =
      let (e₁, f₁) = one_if (eqb map 33) d₁ in
      let (e₂, f₂) = one_if (eqb map 38) d₂ in
      let (e₃, f₃) = one_if b d₃ in
      let k : Kinds map (rule_of x) = rw em (kinds (rule_of x) (stands x).begins) in
      record {
        all = g.all;
        texts = omega (arith, rw e at g.texts, rw k.text at e₁);
        tags = omega (arith, rw e at g.tags, rw k.tag at e₂);
        counting = omega (arith, rw e at g.counting, rw (ec, k.count) at e₃);
      }

  pub numbering_all : left ≡ [] → RulesOf R (record { ones = ones; twos = twos; counted = counts })
  unfolding of_kind of_count
  numbering_all e =
      record {
        texts = omega (arith, rw e at g.texts);
        tags = omega (arith, rw e at g.tags);
        counts = omega (arith, rw e at g.counting);
        few = omega (arith, g.all, g.texts, g.tags, kind_few 1 R, kind_few 2 R);
      }

-- ---- along a chain

-- What the rules that are left on the chain of a key add to a set makes what all of some rules give.
pub record OnChain (f : Rule → List ℕ) (k : ℕ) (R : List Rule) (c : Chain) (set : ℕ) : Type 0 where
  pub keyed : c.key ≡ k
  pub adding : Gathers set (flat_map f (chain_left c)) (flat_map f R)

-- ---- rules of kinds one and two

-- Rules of key k give a target, word w of the rule, where a test on the words and the place of the rule holds. Others give nothing.
pub record Targets (f : Rule → List ℕ) (k w : ℕ) (flag : List ℕ → ℕ → Bool) : Type 0 where
  pub apart : (x : Rule) → key x ≢ k → f x ≡ []
  pub gives : {p a : ℕ} {s : List ℕ} (x : Rule) → p ≤ 64 → RuleAt p s a x → key x ≡ k
      → (f x ≡ only (flag s a) (get_or s (a + w) 0)) × (a + w < length s) × (get_or s (a + w) 0 < 64)

-- a kind of text has number 1 or 2
text_few : (text : TextKind) → (1 ≤ text_kind text) × (text_kind text ≤ 2)
text_few Integer = omega arith
text_few Other = omega arith

of_kind-rules : {kind : ℕ} → (1 ≤ kind) × (kind ≤ 2) → Targets (at_text kind) kind 2 (λ s a. true)
unfolding at_text key only rule_words
of_kind-rules {kind} few = record { apart = apart; gives = gives }
  where
    apart : (x : Rule) → key x ≢ kind → at_text kind x ≡ []
    apart (one j q) d = rw (eqb-false {m = j} {n = kind} d)
    apart (two b c q) d = refl
    apart (three o c q) d = refl

    gives : {p a : ℕ} {s : List ℕ} (x : Rule) → p ≤ 64 → RuleAt p s a x → key x ≡ kind → (at_text kind x ≡ only true (get_or s (a + 2) 0)) ×
        (a + 2 < length s) × (get_or s (a + 2) 0 < 64)
    gives (one j q) l h e =
        let target = word-is h.there 2 (omega arith) in
        (rw (target, eqb_yes e), word-within h.there 2 (omega arith), omega (arith, h.ranges))
    gives (two b c q) l h e = absurd (omega (arith, h.ranges))
    gives (three o c q) l h e = absurd (omega arith)

pub text_rules : (text : TextKind) → Targets (at_text (text_kind text)) (text_kind text) 2 (λ s a. true)
text_rules text = of_kind-rules (text_few text)

pub tag_rules : {tag : ℕ} (inner : ℕ) → 1 ≤ tag → Targets (at_tag_with tag inner) (2 + tag) 3 (λ s a. bit inner (get_or s (a + 2) 0))
unfolding at_tag_with key only rule_words
tag_rules {tag} inner low = record { apart = apart; gives = gives }
  where
    apart : (x : Rule) → key x ≢ 2 + tag → at_tag_with tag inner x ≡ []
    apart (one j q) d = refl
    apart (two b c q) d = rw (eqb-false {m = b} {n = tag} (λ e. d (ap (λ (n : ℕ). 2 + n) e)))
    apart (three o c q) d = refl

    gives : {p a : ℕ} {s : List ℕ} (x : Rule) → p ≤ 64 → RuleAt p s a x → key x ≡ 2 + tag
        → (at_tag_with tag inner x ≡ only (bit inner (get_or s (a + 2) 0)) (get_or s (a + 3) 0)) × (a + 3 < length s) ×
        (get_or s (a + 3) 0 < 64)
    gives (one j q) l h e = absurd (omega (arith, h.ranges))
    gives (two b c q) l h e =
        let same : b ≡ tag = omega arith in
        let target = word-is h.there 3 (omega arith) in
        (rw (word-is h.there 2 (omega arith), target, eqb_yes same), word-within h.there 3 (omega arith), omega (arith, h.ranges))
    gives (three o c q) l h e = absurd (omega arith)

-- those that a tag's rules give by a set, by the states of the set
pub tags_with : (tag : ℕ) {inner : ℕ} {l : List ℕ} → Stands inner l → (R : List Rule)
    → flat_map (at_tag_with tag inner) R ≡ flat_map (at_tag tag l) R
unfolding flat_map at_tag at_tag_with
tags_with tag h [] = refl
tags_with tag h (one j q ∷ R) = tags_with tag h R
tags_with tag h (two b c q ∷ R) = rw (h.same c, tags_with tag h R)
tags_with tag h (three o c q ∷ R) = tags_with tag h R

module _ {f : Rule → List ℕ} {k w : ℕ} {flag : List ℕ → ℕ → Bool} (t : Targets f k w flag) (R : List Rule) where
  pub chain_begun : {c : Chain} {n : ℕ} → n ≡ k → c.key ≡ n → chain_left c ≡ with_key n R → OnChain f k R c 0
  chain_begun en ec e = record { keyed = ec ∙ en; adding = rw (e, en, with_key-all f t.apart R) (gathers_none (flat_map f R)) }

  module _ {c d : Chain} {set : ℕ} (g : OnChain f k R c set) (x : Spot) (next : ChainNext c x d) where
    abbrev s : List ℕ
    s = x.sheet.words.now

    here : (f (rule_of x) ≡ only (flag s x.at) (get_or s (x.at + w) 0)) × (x.at + w < length s) × (get_or s (x.at + w) 0 < 64)
    here = t.gives (rule_of x) (in_range x.sheet.indexed.sheet).few_states (stands x).begins (next.has_key ∙ g.keyed)

    pub target_room : x.at + w < length s
    target_room = here.1

    pub target-added : {r : ℕ} → r ≡ mask 64 (λ j. bit set j || (flag s x.at && eqb j (get_or s (x.at + w) 0))) → OnChain f k R d r
    unfolding flat_map
    target-added m = record {
      keyed = next.same_key ∙ g.keyed;
      adding = gathers_more (flag s x.at) _ here.2 m (rw (next.rule, here.0) at g.adding);
    }

pub chain_ended : {f : Rule → List ℕ} {k : ℕ} {R : List Rule} {c : Chain} {set : ℕ} → OnChain f k R c set → chain_left c ≡ []
    → Stands set (flat_map f R)
unfolding flat_map
chain_ended g e = gathers_all (rw e at g.adding)

-- ---- an element, by what its content reaches

-- nothing is reached from no state
pub no_tag : (a : ℕ) (R : List Rule) → flat_map (at_tag a []) R ≡ []
unfolding flat_map at_tag only has
no_tag a [] = refl
no_tag a (one k q ∷ R) = no_tag a R
no_tag a (two b c q ∷ R) = rw (and-false (eqb b a)) (no_tag a R)
no_tag a (three o c q ∷ R) = no_tag a R

module _ {R : List Rule} {r : Rules} (k : RulesOf R r) where
  -- the content reaches no state
  pub tagged_unreached : (tag : ℕ) {inside : Found} → inside.targets ≡ 0 → TagFinds R tag inside
      (record { targets = 0; looks = inside.looks })
  tagged_unreached tag e = record {
    found = λ l n f.
        let none = stands_none f.reached e in
        rw (none, no_tag tag R)
        (record { reached = none_stands; number = omega (arith, f.number); few = omega (arith, f.few) });
  }

  -- it reaches some
  pub tagged-reached : {tag targets : ℕ} {inside : Found} → inside.targets ≢ 0
      → Stands targets (flat_map (at_tag_with tag inside.targets) R)
      → TagFinds R tag inside (record { targets = targets; looks = inside.looks + r.twos })
  tagged-reached {tag} some-state reach = record {
    found = λ l n f.
        let (x, xs, e) = stands-some f.reached some-state in
        record {
          reached = rw (tags_with tag f.reached R) at reach;
          number = rw e (omega (arith, f.number, k.tags));
          few = omega (arith, f.few, k.few);
        };
  }
