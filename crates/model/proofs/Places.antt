-- State words, node by node, and the highest-numbered node that has a property.
use mathlib.Core.Path.{◌≡◌, refl, sym, ap, ◌∙◌, subst}
use mathlib.Core.Bool.{Bool, false}
use mathlib.Core.List.Memᴰ
use mathlib.Core.List.{List, [], ◌∷◌, ◌++◌, tail-eq_of_cons-eq}
use Prim.Native.Nat.{ℕ, zero, suc}
use native.Mathlib.Omega.{arith}
use lib.Dec.{eqb-zero-suc}
use lib.ListN.{length}
use Rattle.model.specs.Lists.{◌∈◌, has}
use Rattle.model.specs.Tree.{Element, text, tag, nodes}
use Rattle.model.specs.Sheet.{Rule}
use Rattle.model.specs.Relation.{To, NoState, SomeState, StateWord, StatesOf, no_words, a_word, Highest}
use Rattle.model.specs.Run.{last_zero, next_if}
use Rattle.model.proofs.Tests.{Yes, never, Told, yea, nay, told}

-- ---- state words

pub length-states : {R : List Rule} {l : List Element} {st : List ℕ} → StatesOf R l st → length st ≡ length l
length-states no_words = refl
length-states (a_word h t) = ap suc (length-states t)

-- the first word is the root's
pub root-word : {R : List Rule} (e : Element) {x : ℕ} {st : List ℕ} → StatesOf R (nodes e) (x ∷ st) → StateWord R e x
unfolding nodes
root-word (text k w) (a_word h t) = h
root-word (tag a w d) (a_word h t) = h

pub root-has-word : {R : List Rule} (e : Element) → StatesOf R (nodes e) [] → ⊥
unfolding nodes
root-has-word (text k w) t = let h = length-states t in omega arith
root-has-word (tag a w d) t = let h = length-states t in omega arith

-- ---- the highest-numbered node

module _ {P Q : Element → Type 0} where
  pub highest_here : {e : Element} {l : List Element} → P e → ((f : Element) → f ∈ l → Q f) → Highest P Q (e ∷ l) 0
  highest_here {e} {l} p q = record { before = []; at = e; after = l; split = refl; index = refl; holds = p; above = q }

  pub highest_later : {e : Element} {l : List Element} {i : ℕ} → Highest P Q l i → Highest P Q (e ∷ l) (suc i)
  highest_later {e} h = record {
    before = e ∷ h.before;
    at = h.at;
    after = h.after;
    split = ap (λ r. e ∷ r) h.split;
    index = ap suc h.index;
    holds = h.holds;
    above = h.above;
  }

  pub highest_∈ : {l : List Element} {i : ℕ} (h : Highest P Q l i) → h.at ∈ l
  highest_∈ h = subst (λ l. h.at ∈ l) (sym h.split) (Memᴰ.append_right h.before (Memᴰ.head refl))

  -- there is only one such node
  pub highest_unique : ((f : Element) → P f → Q f → ⊥) → (l : List Element) {i j : ℕ} → Highest P Q l i → Highest P Q l j → i ≡ j
  highest_unique apart l {i} {j} h k = go h.before k.before (sym h.split ∙ k.split) h.index k.index
    where
      -- the shorter front leaves the other's node behind it
      behind : {a : List Element} (u : List Element) (y : Element) (b : List Element) → a ≡ u ++ (y ∷ b) → y ∈ a
      behind u y b e = subst (λ m. y ∈ m) (sym e) (Memᴰ.append_right u (Memᴰ.head refl))

      go : (u v : List Element) {m n : ℕ} → u ++ (h.at ∷ h.after) ≡ v ++ (k.at ∷ k.after) → length u ≡ m → length v ≡ n → m ≡ n
      go [] [] e p q = sym p ∙ q
      go [] (y ∷ v) e p q = absurd (apart k.at k.holds (h.above k.at (behind v k.at k.after (tail-eq_of_cons-eq e))))
      go (x ∷ u) [] e p q = absurd (apart h.at h.holds (k.above h.at (behind u h.at h.after (sym (tail-eq_of_cons-eq e)))))
      go (x ∷ u) (y ∷ v) e p q = sym p ∙ ap suc (go u v (tail-eq_of_cons-eq e) refl refl) ∙ q

-- ---- the highest-numbered node without a state

-- of a node and others after it, by whether one of those has no state
abbrev StuckBy : List Rule → Element → List Element → List ℕ → Bool → Type 0
StuckBy R f l st later = Highest (NoState R) (SomeState R) (f ∷ l) (next_if later (last_zero st))

module _ {R : List Rule} where
  some-state : {l : List Element} {st : List ℕ} → StatesOf R l st → has st 0 ≡ false → (f : Element) → f ∈ l → SomeState R f
  unfolding has
  some-state no_words e f m = absurd (Memᴰ.not-nil m)
  some-state (a_word {s = zero} h t) e f m = never (sym e)
  some-state (a_word {s = suc q} h t) e f (Memᴰ.head i) = (q, subst (λ x. To R x q) (sym i) h)
  some-state (a_word {s = suc q} h t) e f (Memᴰ.tail m) = some-state t (rw (eqb-zero-suc q) at e) f m

  stuck_at : {l : List Element} {st : List ℕ} → StatesOf R l st → Yes (has st 0) → Highest (NoState R) (SomeState R) l (last_zero st)
  unfolding has last_zero
  stuck_at no_words e = never e
  stuck_at (a_word {f = f} {l = l} {s = zero} {st = st} h t) e = go (told (has st 0)) (λ y. stuck_at t y)
    where
      go : Told (has st 0) → (Yes (has st 0) → Highest (NoState R) (SomeState R) l (last_zero st)) → StuckBy R f l st (has st 0)
      go (yea y) r = subst (StuckBy R f l st) (sym y) (highest_later (r y))
      go (nay n) r = subst (StuckBy R f l st) (sym n) (highest_here h (some-state t n))
  stuck_at (a_word {f = f} {l = l} {s = suc q} {st = st} h t) e =
      let y : Yes (has st 0) = rw (eqb-zero-suc q) at e in subst (StuckBy R f l st) (sym y) (highest_later (stuck_at t y))

  -- where the first node has no state
  pub root_stuck : {l : List Element} {st : List ℕ} → StatesOf R l (zero ∷ st) → Highest (NoState R) (SomeState R) l (last_zero (zero ∷ st))
  unfolding has
  root_stuck t = stuck_at t refl
