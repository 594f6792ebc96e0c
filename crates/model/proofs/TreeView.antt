-- What stands at a node of a tree: a view of `look`, with the facts of each answer; and the children's step, whatever the steps left.
use mathlib.Core.Path.{◌≡◌, refl, sym, ap, ◌∙◌}
use mathlib.Core.Logic.{◌↔◌, ◌⊎◌, inl, inr}
use mathlib.Core.Bool.{Bool, true, false, cond, not, ◌&&◌, ◌||◌}
use mathlib.Core.List.{List}
use Prim.Native.Nat.{ℕ, zero, suc, ◌+◌, ◌-◌, ◌≤◌, ◌<◌}
use native.Mathlib.Omega.{arith}
use borrow.Author.Tests as tests
use lib.Dec.{eqb, leb, ltb}
use lib.ListN.{length}
use Rattle.model.specs.Answers.{Checked}
use Rattle.model.specs.Tree.{Document, symbol_at, size_at, text_symbol, tag_symbol, Seen, at_end, a_text, an_element, breaks, look}
use Rattle.model.specs.Tree.{children_by, children}
use Rattle.model.proofs.Tests.{Yes, and_yes, and_left, and_right, or_left, or_right, or_cases, same, eqb_yes, eqb-false, Told, yea}
use Rattle.model.proofs.Tests.{nay, told, not_yes, yes_not, between_yes, between_inv}

-- ---- tests

-- texts have the symbols 65 and 66, tags those from 1 to g
pub text_symbol-is : (s : ℕ) → Yes (text_symbol s) ↔ (65 ≤ s) × (s ≤ 66)
unfolding text_symbol
text_symbol-is s = (λ y. fro (or_cases (eqb s 65) (eqb s 66) y), λ h. to (told (eqb s 65)) h.0 h.1)
  where
    fro : Yes (eqb s 65) ⊎ Yes (eqb s 66) → (65 ≤ s) × (s ≤ 66)
    fro (inl y) = omega (arith, same s 65 y)
    fro (inr y) = omega (arith, same s 66 y)

    to : Told (eqb s 65) → 65 ≤ s → s ≤ 66 → Yes (eqb s 65 || eqb s 66)
    to (yea y) a b = or_left (eqb s 66) y
    to (nay n) a b = or_right (eqb s 65) (eqb_yes {m = s} {n = 66} (omega (arith, tests.eqb-false s 65 n)))

pub tag_symbol-is : (g s : ℕ) → Yes (tag_symbol g s) ↔ (1 ≤ s) × (s ≤ g)
unfolding tag_symbol
tag_symbol-is g s = (between_inv 1 g s, λ h. between_yes 1 g s h.0 h.1)

-- with at most 64 tags a tag's symbol is no text's
pub tag_no_text : (g s : ℕ) → g ≤ 64 → Yes (tag_symbol g s) → text_symbol s ≡ false
unfolding text_symbol
tag_no_text g s h y =
    let (a, b) = (tag_symbol-is g s).0 y in
    rw (eqb-false {m = s} {n = 65} (omega arith), eqb-false {m = s} {n = 66} (omega arith))

-- what is tested of a text of size z, and of an element of size z at node i
text_tests : (z : ℕ) (after_text : Bool) → Yes (eqb z 1 && not after_text) ↔ (z ≡ 1) × (after_text ≡ false)
text_tests z after_text = (
  λ y. (same z 1 (and_left (eqb z 1) (not after_text) y), yes_not after_text (and_right (eqb z 1) (not after_text) y)),
  λ h. and_yes (eqb_yes h.0) (not_yes h.1),
)

element_tests : (g levels s z i end : ℕ)
    → Yes (tag_symbol g s && (ltb 0 levels && (leb 1 z && leb (i + z) end))) ↔ Yes (tag_symbol g s) × (0 < levels) × (1 ≤ z) × (i + z ≤ end)
element_tests g levels s z i end = (
  λ y.
      let u = and_right (tag_symbol g s) (ltb 0 levels && (leb 1 z && leb (i + z) end)) y in
      let v = and_right (ltb 0 levels) (leb 1 z && leb (i + z) end) u in (
        and_left (tag_symbol g s) (ltb 0 levels && (leb 1 z && leb (i + z) end)) y,
        tests.ltb-true 0 levels (and_left (ltb 0 levels) (leb 1 z && leb (i + z) end) u),
        tests.leb-true 1 z (and_left (leb 1 z) (leb (i + z) end) v),
        tests.leb-true (i + z) end (and_right (leb 1 z) (leb (i + z) end) v),
      ),
  λ h. and_yes h.0 (and_yes (tests.lt-ltb 0 levels h.1) (and_yes (tests.le-leb 1 z h.2) (tests.le-leb (i + z) end h.3))),
)

-- ---- the view

module _ (t : List ℕ) (g levels i end : ℕ) (after_text : Bool) where
  -- what stands at node i, with the facts of each answer
  pub data View : Seen → Type 0 where
    ended : end ≤ i → View at_end
    text_here : i < end → Yes (text_symbol (symbol_at t i)) → size_at t i ≡ 1 → after_text ≡ false → View a_text
    element_here : (next : ℕ) → next ≡ i + size_at t i → i < next → next ≤ end
        → text_symbol (symbol_at t i) ≡ false → Yes (tag_symbol g (symbol_at t i)) → 0 < levels → View (an_element next)
    broken_here : i < end → View breaks

  pub view : View (look t g levels i end after_text)
  unfolding look
  view =
      go (leb end i) (text_symbol (symbol_at t i)) (eqb (size_at t i) 1 && not after_text)
      (tag_symbol g (symbol_at t i) && (ltb 0 levels && (leb 1 (size_at t i) && leb (i + size_at t i) end))) refl refl refl refl
    where
      go : (a b c d : Bool) → leb end i ≡ a → text_symbol (symbol_at t i) ≡ b → (eqb (size_at t i) 1 && not after_text) ≡ c
          → (tag_symbol g (symbol_at t i) && (ltb 0 levels && (leb 1 (size_at t i) && leb (i + size_at t i) end))) ≡ d
          → View (cond a at_end (cond b (cond c a_text breaks) (cond d (an_element (i + size_at t i)) breaks)))
      go true b c d ha hb hc hd = ended (tests.leb-true end i ha)
      go false true true d ha hb hc hd = let (z, p) = (text_tests (size_at t i) after_text).0 hc in text_here
          (tests.leb-false end i ha) hb z p
      go false true false d ha hb hc hd = broken_here (tests.leb-false end i ha)
      go false false c true ha hb hc hd =
          let (y, l, z, e) = (element_tests g levels (symbol_at t i) (size_at t i) i end).0 hd in
          element_here (i + size_at t i) refl (omega arith) e hb y l
      go false false c false ha hb hc hd = broken_here (tests.leb-false end i ha)

  -- the facts that give each answer
  pub look-end : end ≤ i → look t g levels i end after_text ≡ at_end
  unfolding look
  look-end h = rw (tests.le-leb end i h)

  pub look_text : i < end → Yes (text_symbol (symbol_at t i)) → size_at t i ≡ 1 → after_text ≡ false → look t g levels i end after_text ≡
      a_text
  unfolding look
  look_text h y z p = rw (tests.lt-leb end i h, y, (text_tests (size_at t i) after_text).1 (z, p))

  pub look_element : text_symbol (symbol_at t i) ≡ false → Yes
      (tag_symbol g (symbol_at t i)) → 0 < levels → 1 ≤ size_at t i → i + size_at t i ≤ end
      → look t g levels i end after_text ≡ an_element (i + size_at t i)
  unfolding look
  look_element x y l z e = rw (
    tests.lt-leb end i (omega arith),
    x,
    (element_tests g levels (symbol_at t i) (size_at t i) i end).1 (y, l, z, e),
  )

-- ---- steps

-- a reading of the children under one parent
abbrev pub Reading : Type 0
Reading = (levels i end : ℕ) (after_text : Bool) → Checked Document

module _ (t : List ℕ) (g : ℕ) where
  -- two readings that agree on what comes after and below a node give the same children from it on
  same-children : (p q : Reading) (levels i end : ℕ) (after_text : Bool) (s : Seen) → View t g levels i end after_text s
      → ((l j e : ℕ) (b : Bool) → i < j → e ≤ end → p l j e b ≡ q l j e b) → children_by t p levels i end s ≡ children_by t q levels i end s
  unfolding children_by
  same-children p q levels i end after_text s (ended _) h = refl
  same-children p q levels i end after_text s (text_here lt _ _ _) h = rw (h levels (i + 1) end true (omega arith) (omega arith))
  same-children p q levels i end after_text s (element_here n _ lt le _ _ _) h =
      rw (h (levels - 1) (i + 1) n false (omega arith) le, h levels n end false lt (omega arith))
  same-children p q levels i end after_text s (broken_here _) h = refl

  -- one step more changes nothing where there are enough
  one_more : (steps levels i end : ℕ) (after_text : Bool) → end ≤ i + steps
      → children t g (suc steps) levels i end after_text ≡ children t g steps levels i end after_text
  unfolding children children_by
  one_more zero levels i end after_text h = rw (look-end t g levels i end after_text (omega arith))
  one_more (suc steps) levels i end after_text h =
      same-children (children t g (suc steps)) (children t g steps) levels i end after_text _ (view t g levels i end after_text)
      (λ l j e b lt le. one_more steps l j e b (omega arith))

  enough_steps : (steps levels i end : ℕ) (after_text : Bool) → end ≤ steps
      → children t g steps levels i end after_text ≡ children_by t (children t g steps) levels i end (look t g levels i end after_text)
  unfolding children children_by
  enough_steps zero levels i end after_text h = rw (look-end t g levels i end after_text (omega arith))
  enough_steps (suc steps) levels i end after_text h =
      same-children (children t g steps) (children t g (suc steps)) levels i end after_text _ (view t g levels i end after_text)
      (λ l j e b lt le. sym (one_more steps l j e b (omega arith)))

-- the children of a tree are read by what stands at each node
pub children-step : (t : List ℕ) (g levels i end : ℕ) (after_text : Bool) → end ≤ length t
    → children t g (length t) levels i end after_text ≡ children_by t (children t g (length t)) levels i end
    (look t g levels i end after_text)
children-step t g levels i end after_text h = enough_steps t g (length t) levels i end after_text h

-- the same where it is known what stands there
pub children-seen : (t : List ℕ) (g levels i end : ℕ) (after_text : Bool) {s : Seen} → end ≤ length t → look t g levels i end after_text ≡ s
    → children t g (length t) levels i end after_text ≡ children_by t (children t g (length t)) levels i end s
children-seen t g levels i end after_text h e = children-step t g levels i end after_text h ∙
    ap (children_by t (children t g (length t)) levels i end) e
