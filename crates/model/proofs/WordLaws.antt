-- Order and count parts: sets of positions decide the language of an automaton, and the truths of steps decide what a count part asks.
use mathlib.Core.Path.{◌≡◌, refl, sym, ap, ◌∙◌, subst}
use mathlib.Core.Logic.{◌⊎◌, inl, inr, ◌↔◌}
use mathlib.Core.Bool.{Bool, true, false, not, ◌&&◌, ◌||◌}
use mathlib.Core.List.Memᴰ
use mathlib.Core.List.{List, [], ◌∷◌, ◌++◌}
use mathlib.Core.Option.{Option, none, some}
use Prim.Native.Nat.{ℕ, zero, suc, ◌+◌, ◌-◌, ◌*◌, ◌/◌, ◌%◌, ◌<◌}
use native.Mathlib.Nat.{mod-lt, div-add-mod', suc-mul, add_comm}
use native.Mathlib.Omega.{arith}
use lib.Arith.{digits_mod}
use lib.Dec.{T, eqb}
use lib.IntN.{ℤ, pos, negsuc, neg_ℤ, ◌+ℤ◌, ◌*ℤ◌}
use lib.Signed.{le_z, ◌≤ℤ◌, le_z_yes}
use lib.ListN.{length, get_or, length-append}
use lib.Seq.{get_or-append-add}
use borrow.Author.Tests.{lt-ltb}
use Rattle.model.specs.Lists.{◌∈◌, has}
use Rattle.model.specs.Sheet.{Arc, Order, Step, at_most, remainder, not_step, and_step, or_step, StepInRange, StepsInRange}
use Rattle.model.specs.Sheet.{CountInRange, IfAny}
use Rattle.model.specs.Words.{Path_of, InLanguage, entered, next_set, last_set, meets, fits_order, total, Asks, LastAsks, Satisfied}
use Rattle.model.specs.Words.{remainder_of, holds, truths, fits_count}
use Rattle.model.proofs.Tests.{Yes, never, and_yes, and_left, and_right, or_left, or_right, or_cases, not_yes, yes_not, Told, yea}
use Rattle.model.proofs.Tests.{nay, told, same, eqb_yes}
use Rattle.model.proofs.ListLaws.{∈-has, has-∈, ∈-only, only_test, only_eq, ∈-each, each-∈}

-- ---- order parts

-- an arc is followed where it leaves a position of the set and reads the state
∈-entered : (set : List ℕ) (q : ℕ) (a : Arc) → a.reads ≡ q → a.leaves ∈ set → a.enters ∈ entered set q a
unfolding entered
∈-entered set q a e m = ∈-only _ a.enters (and_yes (eqb_yes e) (∈-has m))

entered-∈ : (set : List ℕ) (q : ℕ) (a : Arc) {k : ℕ} → k ∈ entered set q a → (a.reads ≡ q) × (a.leaves ∈ set) × (k ≡ a.enters)
unfolding entered
entered-∈ set q a m =
    let t : Yes (eqb a.reads q && has set a.leaves) = only_test _ a.enters m in
    (same _ _ (and_left _ _ t), has-∈ set (and_right (eqb a.reads q) _ t), only_eq _ a.enters m)

-- the last set holds the ends of the paths that begin in the set
∈-last : (arcs : List Arc) (w set : List ℕ) (i j : ℕ) → i ∈ set → Path_of arcs i w j → j ∈ last_set arcs set w
unfolding last_set next_set
∈-last arcs [] set i j m e = subst (λ (x : ℕ). x ∈ set) e m
∈-last arcs (q ∷ w) set i j m (a, s, l, r, rest) =
    ∈-last arcs w (next_set arcs set q) a.enters j
    (∈-each (entered set q) s (∈-entered set q a r (subst (λ (x : ℕ). x ∈ set) (sym l) m))) rest

last-∈ : (arcs : List Arc) (w set : List ℕ) (j : ℕ) → j ∈ last_set arcs set w → (i : ℕ) × (i ∈ set) × Path_of arcs i w j
unfolding last_set next_set
last-∈ arcs [] set j m = (j, m, refl)
last-∈ arcs (q ∷ w) set j m =
    let (k, n, path) = last-∈ arcs w (next_set arcs set q) j m in
    let (a, s, t) = each-∈ (entered set q) arcs n in
    let (reads, leaves, enters) = entered-∈ set q a t in
    (a.leaves, leaves, (a, s, refl, reads, subst (λ (x : ℕ). Path_of arcs x w j) enters path))

-- two sets meet in a common member
∈-meets : {x : ℕ} {l xs : List ℕ} → x ∈ xs → x ∈ l → Yes (meets xs l)
unfolding meets
∈-meets {l} (Memᴰ.head {xs} e) m = or_left (meets xs l) (∈-has (subst (λ (z : ℕ). z ∈ l) e m))
∈-meets {l} (Memᴰ.tail {x = y} n) m = or_right (has l y) (∈-meets n m)

meets-∈ : (xs l : List ℕ) → Yes (meets xs l) → (x : ℕ) × (x ∈ xs) × (x ∈ l)
unfolding meets
meets-∈ [] l t = never t
meets-∈ (y ∷ xs) l t = go (λ s. meets-∈ xs l s) (or_cases (has l y) (meets xs l) t)
  where
    go : (Yes (meets xs l) → (x : ℕ) × (x ∈ xs) × (x ∈ l)) → Yes (has l y) ⊎ Yes (meets xs l) → (x : ℕ) × (x ∈ y ∷ xs) × (x ∈ l)
    go r (inl s) = (y, Memᴰ.head refl, has-∈ l s)
    go r (inr s) = let (x, m, n) = r s in (x, Memᴰ.tail m, n)

-- the sets of positions accept a word exactly when a path of arcs does
pub order-fits : (o : Option Order) (w : List ℕ) → (fits_order o w ≡ true) ↔ InLanguage o w
unfolding fits_order
order-fits none w = (λ _. tt, λ _. refl)
order-fits (some o) w = (there, back)
  where
    there : Yes (meets (last_set o.arcs (0 ∷ []) w) o.accepting) → InLanguage (some o) w
    there t =
        let (j, m, n) = meets-∈ (last_set o.arcs (0 ∷ []) w) o.accepting t in
        let (i, k, path) = last-∈ o.arcs w (0 ∷ []) j m in
        (j, subst (λ (x : ℕ). Path_of o.arcs x w j) (Memᴰ.eq_of_singleton k) path, n)

    back : InLanguage (some o) w → Yes (meets (last_set o.arcs (0 ∷ []) w) o.accepting)
    back (j, path, m) = ∈-meets (∈-last o.arcs w (0 ∷ []) 0 j (Memᴰ.head refl) path) m

-- ---- remainders

-- the quotient, rounded down
quotient : ℤ → ℕ → ℤ
quotient (pos n) m = pos (n / m)
quotient (negsuc n) m = negsuc (n / m)

-- r − n, where n is larger
less : (r n : ℕ) → r < n → pos r +ℤ neg_ℤ (pos n) ≡ negsuc (n - suc r)
less r zero h = absurd (omega arith)
less r (suc n) h = rw (lt-ltb r (suc n) h)

remainder_< : (z : ℤ) (m : ℕ) → 0 < m → remainder_of z m < m
unfolding remainder_of
remainder_< (pos n) m h = mod-lt n h
remainder_< (negsuc n) m h = omega arith

remainder_leaves : (z : ℤ) (m : ℕ) → 0 < m → z ≡ pos (remainder_of z m) +ℤ (quotient z m *ℤ pos m)
unfolding remainder_of quotient
remainder_leaves (pos n) m h = ap pos (omega (arith, div-add-mod' n m))
remainder_leaves (negsuc n) m h =
    let k : ℕ = suc (n / m) * m in
    let big : m - 1 - n % m < k = omega (arith, suc-mul (n / m) m) in
    let e : n ≡ k - suc (m - 1 - n % m) = omega (arith, suc-mul (n / m) m, div-add-mod' n m, mod-lt n h) in
    ap negsuc e ∙ sym (less (m - 1 - n % m) k big)

remainder_alone : (k : ℤ) (m r : ℕ) → r < m → remainder_of (pos r +ℤ (k *ℤ pos m)) m ≡ r
unfolding remainder_of
remainder_alone (pos q) m r h = ap (λ (x : ℕ). x % m) (add_comm r (q * m)) ∙ digits_mod q h
remainder_alone (negsuc q) m r h =
    let n : ℕ = suc q * m in
    let big : r < n = omega (arith, suc-mul q m) in
    let e : n - suc r ≡ q * m + (m - 1 - r) = omega (arith, suc-mul q m) in
    let s : m - 1 - r < m = omega arith in
    ap (λ (z : ℤ). remainder_of z m) (less r n big ∙ ap negsuc e) ∙ ap (λ (x : ℕ). m - 1 - x) (digits_mod q s) ∙ omega arith

-- the remainder is r exactly when r is below m and differs from the number by a whole multiple of m
pub remainder_is : (z : ℤ) (m r : ℕ) → 0 < m → (remainder_of z m ≡ r) ↔ ((r < m) × ((k : ℤ) × (z ≡ pos r +ℤ (k *ℤ pos m))))
remainder_is z m r h = (there, back)
  where
    there : remainder_of z m ≡ r → (r < m) × ((k : ℤ) × (z ≡ pos r +ℤ (k *ℤ pos m)))
    there e = subst (λ (x : ℕ). (x < m) × ((k : ℤ) × (z ≡ pos x +ℤ (k *ℤ pos m)))) e
        (remainder_< z m h, (quotient z m, remainder_leaves z m h))

    back : (r < m) × ((k : ℤ) × (z ≡ pos r +ℤ (k *ℤ pos m))) → remainder_of z m ≡ r
    back (s, (k, e)) = ap (λ (y : ℤ). remainder_of y m) e ∙ remainder_alone k m r s

-- ---- count parts

-- a test tells whether P holds
abbrev Tells : Bool → Type 0 → Type 0
Tells b P = Yes b ↔ P

at-most_tells : (z b : ℤ) → Tells (le_z z b) (z ≤ℤ b)
at-most_tells z b = (λ t. le_z_yes (there (le_z z b) t), λ h. back (le_z z b) h.le)
  where
    there : (x : Bool) → Yes x → T x
    there true t = tt
    there false t = never t

    back : (x : Bool) → T x → Yes x
    back true t = refl
    back false t = absurd t

not_tells : {b : Bool} {P : Type 0} → Tells b P → Tells (not b) (P → ⊥)
not_tells {b} {P} t = (λ y h. never (sym (yes_not b y) ∙ t.1 h), λ f. go f (told b))
  where
    go : (P → ⊥) → Told b → Yes (not b)
    go f (yea y) = absurd (f (t.0 y))
    go f (nay n) = not_yes n

and_tells : {b c : Bool} {P Q : Type 0} → Tells b P → Tells c Q → Tells (b && c) (P × Q)
and_tells {b} {c} t u = (λ y. (t.0 (and_left b c y), u.0 (and_right b c y)), λ h. and_yes (t.1 h.0) (u.1 h.1))

or_tells : {b c : Bool} {P Q : Type 0} → Tells b P → Tells c Q → Tells (b || c) (P ⊎ Q)
or_tells {b} {c} {P} {Q} t u = (λ y. there (or_cases b c y), back)
  where
    there : Yes b ⊎ Yes c → P ⊎ Q
    there (inl y) = inl (t.0 y)
    there (inr y) = inr (u.0 y)

    back : P ⊎ Q → Yes (b || c)
    back (inl h) = or_left c (t.1 h)
    back (inr h) = or_right b (u.1 h)

-- truths that tell, one by one, what steps ask
data TellEach : List Bool → List (Type 0) → Type 1 where
  told_none : TellEach [] []
  told_more : {b : Bool} {P : Type 0} {bs : List Bool} {Ps : List (Type 0)} → Tells b P → TellEach bs Ps → TellEach (b ∷ bs) (P ∷ Ps)

tell_at : {bs : List Bool} {Ps : List (Type 0)} → TellEach bs Ps → (i : ℕ) → Tells (get_or bs i false) (get_or Ps i ⊥)
tell_at told_none i = (λ y. never y, λ h. absurd h)
tell_at (told_more t ts) zero = t
tell_at (told_more t ts) (suc i) = tell_at ts i

tell_last : {bs : List Bool} {Ps : List (Type 0)} {b : Bool} {P : Type 0} → TellEach bs Ps → Tells b P
    → TellEach (bs ++ (b ∷ [])) (Ps ++ (P ∷ []))
tell_last told_none u = told_more u told_none
tell_last (told_more t ts) u = told_more t (tell_last ts u)

module _ (p : ℕ) (w : List ℕ) where
  -- a step's truth tells what it asks, where the truths of the earlier steps tell what these ask
  step_tells : {bs : List Bool} {Ps : List (Type 0)} → TellEach bs Ps → (i : ℕ) (s : Step) → StepInRange p i s → Tells (holds w bs s)
      (Asks w Ps s)
  unfolding holds
  step_tells ts i (at_most cs b) ok = at-most_tells (total cs w) b
  step_tells ts i (remainder cs m r) (_, above, _, below) =
      let (there, back) = remainder_is (total cs w) m r above in
      (λ y. (there (same _ r y)).1, λ x. eqb_yes (back (below, x)))
  step_tells ts i (not_step j) ok = not_tells (tell_at ts j)
  step_tells ts i (and_step j k) ok = and_tells (tell_at ts j) (tell_at ts k)
  step_tells ts i (or_step j k) ok = or_tells (tell_at ts j) (tell_at ts k)

  -- so the last step's truth does
  last_tells : {bs : List Bool} {Ps : List (Type 0)} → TellEach bs Ps → (i : ℕ) (s : Step) (ss : List Step) → StepsInRange p i (s ∷ ss)
      → Tells (get_or (truths w bs (s ∷ ss)) (length bs + length ss) false) (LastAsks w Ps (s ∷ ss))
  unfolding truths
  last_tells {bs} ts i s [] (ok, _) = rw (get_or-append-add bs (holds w bs s ∷ []) 0 false) (step_tells ts i s ok)
  last_tells {bs} ts i s (t ∷ ss) (ok, oks) =
      let e : length bs + suc (length ss) ≡ length (bs ++ (holds w bs s ∷ [])) + length ss
      = omega (arith, length-append bs (holds w bs s ∷ [])) in
      rw e (last_tells {bs = bs ++ (holds w bs s ∷ [])} (tell_last ts (step_tells ts i s ok)) (suc i) t ss oks)

-- the truths of a count part's steps accept a word exactly when it satisfies the count part
pub count_fits : (p : ℕ) (c : Option (List Step)) (w : List ℕ) → IfAny (CountInRange p) c → (fits_count c w ≡ true) ↔ Satisfied c w
unfolding fits_count
count_fits p none w ok = (λ _. tt, λ _. refl)
count_fits p (some []) w ok = let some_steps = ok.some_steps in absurd (omega arith)
count_fits p (some (s ∷ ss)) w ok =
    let e : suc (length ss) - 1 ≡ 0 + length ss = omega arith in
    rw e (last_tells p w told_none 0 s ss ok.steps)
