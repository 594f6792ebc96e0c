-- The parts of a rule of any kind that stands in words: the map tells which there are, and where each stands.
use mathlib.Core.Path.{◌≡◌, refl, sym, ap, ap₂, ◌∙◌}
use mathlib.Core.Bool.{Bool, true, false}
use mathlib.Core.List.{List}
use mathlib.Core.Option.{Option, some}
use Prim.Native.Nat.{ℕ, ◌+◌, ◌≤◌, ◌<◌}
use native.Mathlib.Omega.{arith}
use lib.ListN.{length, get_or, length-map}
use Rattle.std.specs.Prelude as std
use Rattle.std.specs.Bool.{then_some}
use Rattle.model.specs.Sheet.{Order, Step, Rule, one, two, three, set_words, arc_word, order_words, rule_words}
use Rattle.model.specs.Spans.{OrderAt, CountAt, RuleAt, there_is, ordered, counted, order_part}
use Rattle.model.specs.Index.{sheet_in, key}
use Rattle.model.proofs.PartLaws.{word-is}
use Rattle.model.proofs.RuleWords.{order-room, is-there, not_there, is-ordered, is-counted, order-at, count-stands, target-there}
use Rattle.model.proofs.RuleWords.{rule-there, text_key, tag_key}
use Rattle.parts.specs.Lengths.{order_length, key_by}
use Rattle.parts.proofs.LengthLaws.{key_of_rule}
use Rattle.indexed.specs.declared.Spot.{Spot}
use Rattle.indexed.specs.Spots.{parts_of}
use Rattle.indexed.specs.declared.Part.{Part}
use Rattle.indexed.specs.Rules.{rule_of, OrderIn, CountIn, OrderPartOf}
use Rattle.indexed.proofs.SpotLaws.{Stands, stands}

module _ {p a : ℕ} {s : List ℕ} where
  -- ---- the map

  parts_told : (x : Rule) → RuleAt p s a x
      → (there_is (parts_of x).order ≡ ordered (get_or s a 0)) × (there_is (parts_of x).count ≡ counted (get_or s a 0))
  parts_told (one k q) h = rw (text_key h).0 (refl, refl)
  parts_told (two g c q) h = rw (tag_key h).0 (refl, refl)
  parts_told (three o φ q) h = (is-ordered h refl, is-counted h refl)

  -- ---- the order part

  order-stands : (x : Rule) → RuleAt p s a x → {o : Order} → (parts_of x).order ≡ some o → OrderAt p s (a + 1) o
  order-stands (one k q) h e = let z : ◌≡◌ {A = ℕ} 0 1 = cc in absurd (omega arith)
  order-stands (two g c q) h e = let z : ◌≡◌ {A = ℕ} 0 1 = cc in absurd (omega arith)
  order-stands (three o φ q) h e = order-at h e

  -- as long as its arcs and four words more
  order-long : (x : Rule) → RuleAt p s a x → {o : Order} → (parts_of x).order ≡ some o → {n : ℕ} → n ≡ order_length s (a + 1)
      → (n ≡ length (order_part (parts_of x).order)) × (a + 1 + n ≤ length s)
  unfolding order_words set_words order_length
  order-long x h {o} e f =
      let (room, number) = order-room (order-stands x h e) in
      (omega (arith, number, ap (λ (z : Option Order). length (order_part z)) e, length-map o.arcs arc_word), omega (arith, number))

  -- ---- the count part

  counts_stand : (x : Rule) → RuleAt p s a x → {c : ℕ} → c ≡ a + 1 + length (order_part (parts_of x).order) → {ss : List Step}
      → (parts_of x).count ≡ some ss → CountAt p s c ss
  counts_stand (one k q) h at e = let z : ◌≡◌ {A = ℕ} 0 1 = cc in absurd (omega arith)
  counts_stand (two g d q) h at e = let z : ◌≡◌ {A = ℕ} 0 1 = cc in absurd (omega arith)
  counts_stand (three o φ q) h at e = count-stands h at e

  -- ---- the target

  target_is : (x : Rule) → RuleAt p s a x → (t : ℕ) → t + 1 ≡ a + length (rule_words p x)
      → (get_or s t 0 ≡ (parts_of x).target) × ((parts_of x).target < p)
  unfolding rule_words
  target_is (one k q) h t e = let i : t ≡ a + 2 = omega arith in (rw i (word-is h.there 2 (omega arith)), h.ranges.2)
  target_is (two g c q) h t e = let i : t ≡ a + 3 = omega arith in (rw i (word-is h.there 3 (omega arith)), h.ranges.3)
  target_is (three o φ q) h t e = ((target-there h e).1, h.ranges.2)

-- ---- the rule of a spot

module _ (x : Spot) where
  abbrev s : List ℕ
  s = x.sheet.words.now

  abbrev rule : Rule
  rule = rule_of x

  abbrev h : Stands x
  h = stands x

  pub spot-there : x.at + 1 < length s
  spot-there = (rule-there h.begins).0

  pub with_order : {w : ℕ} {r : Bool} → w ≡ get_or s x.at 0 → r ≡ ordered w → r ≡ there_is (parts_of rule).order
  with_order e f = f ∙ ap ordered e ∙ sym (parts_told rule h.begins).0

  pub with_count : {w : ℕ} {r : Bool} → w ≡ get_or s x.at 0 → r ≡ counted w → r ≡ there_is (parts_of rule).count
  with_count e f = f ∙ ap counted e ∙ sym (parts_told rule h.begins).1

  -- where the count part stands, or would stand
  module _ {r : Bool} (e : r ≡ there_is (parts_of rule).order) where
    pub order-end : r ≡ true → {n : ℕ} → n ≡ order_length s (x.at + 1)
        → (x.at + 1 + n ≡ x.at + 1 + length (order_part (parts_of rule).order)) × (x.at + 1 + n ≤ length s)
    order-end t f =
        let (o, i) = is-there (parts_of rule).order (sym e ∙ t) in
        let (same, room) = order-long rule h.begins i f in
        (omega arith, room)

    pub no_order-end : r ≡ false → x.at + 1 ≡ x.at + 1 + length (order_part (parts_of rule).order)
    no_order-end t = omega (arith, ap (λ (z : Option Order). length (order_part z)) (not_there (parts_of rule).order (sym e ∙ t)))

  -- the parts themselves
  pub order-here : {o : Order} → (parts_of rule).order ≡ some o → OrderAt (sheet_in s).states s (x.at + 1) o
  order-here e = order-stands rule h.begins e

  pub count-here : {c : ℕ} → c ≡ x.at + 1 + length (order_part (parts_of rule).order) → {ss : List Step} → (parts_of rule).count ≡ some ss
      → CountAt (sheet_in s).states s c ss
  count-here at e = counts_stand rule h.begins at e

  -- as the code finds them
  pub order_in : {r : Bool} → r ≡ there_is (parts_of rule).order → r ≡ true → OrderIn x (record { words = x.sheet.words; at = x.at + 1 })
  order_in e t =
      let (o, i) = is-there (parts_of rule).order (sym e ∙ t) in
      record { words = refl; at = refl; order = o; has = i; there = order-here i }

  pub count_in : {r : Bool} → r ≡ there_is (parts_of rule).count → r ≡ true → {a : ℕ}
      → a ≡ x.at + 1 + length (order_part (parts_of rule).order) → CountIn x (record { words = x.sheet.words; at = a })
  count_in e t at =
      let (ss, i) = is-there (parts_of rule).count (sym e ∙ t) in
      record { words = refl; at = at; steps = ss; has = i; there = count-here at i }

  -- the order part, if there is one
  pub order_option : {r : Bool} → r ≡ there_is (parts_of rule).order → {part : Part}
      → part ≡ record { words = x.sheet.words; at = x.at + 1 } → {o : std.Option Part} → o ≡ then_some r part → OrderPartOf x o
  order_option {r} e {part} p f = rw f (go r e)
    where
      go : (b : Bool) → b ≡ there_is (parts_of rule).order → OrderPartOf x (then_some b part)
      go true t = rw p (order_in t refl)
      go false t = not_there (parts_of rule).order (sym t)

  -- the order part ends where the count part is, or would be
  pub order_ends : {part : Part} → OrderIn x part → {n : ℕ} → n ≡ order_length part.words.now part.at
      → (part.at + n ≡ x.at + 1 + length (order_part (parts_of rule).order)) × (part.at + n ≤ length s)
  order_ends h f =
      let (same, room) = order-long rule (stands x).begins h.has (rw (h.words, h.at) at f) in
      rw h.at (omega arith, room)

  pub target-here : (get_or s x.target 0 ≡ (parts_of rule).target) × (get_or s x.target 0 < (sheet_in s).states) × (x.target < length s)
  target-here =
      let (is, few) = target_is rule h.begins x.target h.ends in
      (is, omega (arith, is), omega (arith, h.ends, (rule-there h.begins).1))

  pub key_here : {m n k : ℕ} → m ≡ get_or s x.at 0 → n ≡ get_or s (x.at + 1) 0 → k ≡ key_by m n → k ≡ key rule
  key_here e f i = i ∙ ap₂ key_by e f ∙ key_of_rule rule h.begins
