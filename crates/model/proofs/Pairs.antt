-- Pairs of states, and of positions, as numbers: each side's half of a pair. Every law is over the side.
use mathlib.Core.Path.{◌≡◌, sym, ap, ap₂, ◌∙◌}
use mathlib.Core.Logic.{◌↔◌}
use mathlib.Core.List.Memᴰ
use mathlib.Core.List.{List, [], ◌∷◌, map}
use Prim.Native.Nat.{ℕ, zero, suc, ◌*◌, ◌<◌}
use native.Mathlib.Nat.{zero-div, zero-mod, div-add-mod', mod-lt, div-lt_iff_lt-mul}
use native.Mathlib.Omega.{arith}
use lib.Arith.{digits_lt}
use Rattle.model.specs.Lists.{◌∈◌, grid}
use Rattle.model.specs.Compose.{pair, Side, S, T, half, beside, Sizes, of_other, of_side, of_pairs}
use Rattle.model.proofs.ListLaws.{∈-grid, grid-∈, pair_left, pair_right}

-- a thing for each side; a proof for each side
abbrev pub either : {A : Type 0} → A → A → Side → A
either a b S = a
either a b T = b

pub on_both : (P : Side → Type 0) → P S → P T → (side : Side) → P side
on_both P a b S = a
on_both P a b T = b

-- ---- a pair has its halves, and the halves make the pair

pub half-pair : (side : Side) (q : Side → ℕ) {p : ℕ} → q T < p → half side p (pair p (q S) (q T)) ≡ q side
half-pair S q h = pair_left (q S) h
half-pair T q h = pair_right (q S) h

pub pair_halves : (p x : ℕ) → pair p (half S p x) (half T p x) ≡ x
pair_halves p x = div-add-mod' x p

pub same_halves : (p x y : ℕ) → ((side : Side) → half side p x ≡ half side p y) → x ≡ y
same_halves p x y e = sym (pair_halves p x) ∙ ap₂ (pair p) (e S) (e T) ∙ pair_halves p y

pub half_zero : (side : Side) (p : ℕ) → half side p 0 ≡ 0
half_zero S p = zero-div p
half_zero T p = zero-mod p

-- a number is among the pairs of two lists exactly if each half is in its side's list
pub ∈_pairs : (p : ℕ) (l : Side → List ℕ) → ((t : ℕ) → t ∈ l T → t < p) → (x : ℕ) → (x ∈ grid (pair p) (l S) (l T)) ↔
    ((side : Side) → half side p x ∈ l side)
∈_pairs p l below x = (there, λ h. Memᴰ.cast (sym (pair_halves p x)) (∈-grid (pair p) (h S) (h T)))
  where
    there : x ∈ grid (pair p) (l S) (l T) → (side : Side) → half side p x ∈ l side
    there h side =
        let (a, b, ma, mb, e) = grid-∈ (pair p) (l S) (l T) h in
        Memᴰ.cast (ap (half side p) e ∙ half-pair side (either a b) (below b mb)) (on_both (λ z. either a b z ∈ l z) ma mb side)

-- ---- halves of a pair of states are states

some_of_T : (a b : ℕ) {x : ℕ} → x < a * b → 0 < b
some_of_T a zero h = absurd (omega arith)
some_of_T a (suc b) h = omega arith

pub half-below : (side : Side) (n : Sizes) {x : ℕ} → x < of_pairs n → half side n.of_T x < of_side side n
half-below S n h = (div-lt_iff_lt-mul (some_of_T n.of_S n.of_T h)).1 h
half-below T n {x} h = mod-lt x (some_of_T n.of_S n.of_T h)

-- ---- a state of a side beside a state of the other

pub beside-below : (side : Side) (n : Sizes) {q other : ℕ} → q < of_side side n → other < of_other side n → beside side
    n.of_T q other < of_pairs n
beside-below S n h k = digits_lt h k
beside-below T n h k = digits_lt k h

pub half-beside : (side : Side) (n : Sizes) {q other : ℕ} → q < of_side side n → other < of_other side n → half side n.of_T
    (beside side n.of_T q other) ≡ q
half-beside S n {q} h k = pair_left q k
half-beside T n {other = s} h k = pair_right s h

-- a pair is its half beside some state of the other
pub beside-half : (side : Side) (n : Sizes) {x : ℕ} → x < of_pairs n → (other : ℕ) × (other < of_other side n) ×
    (beside side n.of_T (half side n.of_T x) other ≡ x)
beside-half S n {x} h = (half T n.of_T x, half-below T n h, pair_halves n.of_T x)
beside-half T n {x} h = (half S n.of_T x, half-below S n h, pair_halves n.of_T x)

-- ---- words

-- every state of the word is below k
abbrev pub AllBelow : ℕ → List ℕ → Type 0
AllBelow k [] = Unit {0}
AllBelow k (x ∷ w) = (x < k) × AllBelow k w

-- a side's halves of a word of pairs
abbrev pub halves : Side → Sizes → List ℕ → List ℕ
halves side n w = map (half side n.of_T) w
