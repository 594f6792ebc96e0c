-- Sets as bits and as lists: what stands for what.
use mathlib.Core.Path.{◌≡◌, refl, sym, ap, ap₂, ◌∙◌}
use mathlib.Core.Logic.{◌⊎◌, inl, inr, ◌≢◌}
use mathlib.Core.Bool.{Bool, true, false, not, ◌&&◌, ◌||◌, or-false, or_assoc}
use mathlib.Core.List.Memᴰ
use mathlib.Core.List.{List, [], ◌∷◌, ◌++◌}
use Prim.Native.Nat.{ℕ, ◌+◌, ◌*◌, ◌/◌, ◌%◌, ◌^◌, ◌≤◌, ◌<◌}
use native.Mathlib.Nat.{lt_of_lt_of_le}
use native.Mathlib.Omega.{arith}
use lib.Bits.{bit_and}
use lib.Dec.{eqb, ltb, lit<, lit≤}
use lib.Pow.{pow_mono}
use borrow.Author.Tests.{ltb-true, ltb-false}
use Rattle.model.specs.Lists.{has, only, SetBelow}
use Rattle.model.specs.Sheet.{W, mask, bit, members}
use Rattle.model.specs.Words.{meets}
use Rattle.model.proofs.Tests.{Yes, Told, yea, nay, told, never, and_yes, and_left, and_right, or_left, or_right, or_cases, not_yes, same}
use Rattle.model.proofs.Tests.{eqb_yes, eqb_no, eqb-false}
use Rattle.model.proofs.ListLaws.{∈-has, has-∈, has_no, asc_ext}
use Rattle.model.proofs.SetWords.{bit_mask, mask-<, members_set, has-members}
use Rattle.bits.specs.Stands.{Stands}
use Rattle.bits.proofs.BitLaws.{bit_none, bit-above, some-bit, bit-and, bit_power}

-- ---- the empty set, and the set of 0 alone

pub none_stands : Stands 0 []
unfolding has
none_stands = record { fits = lit< tt; same = bit_none }

pub zero_stands : Stands 1 (0 ∷ [])
unfolding has
zero_stands = record { fits = lit< tt; same = λ q. bit_power 0 q ∙ sym (or-false (eqb q 0)) }

-- a set is 0 exactly if its list is empty
pub stands_none : {set : ℕ} {l : List ℕ} → Stands set l → set ≡ 0 → l ≡ []
stands_none {l = []} s e = refl
stands_none {l = x ∷ l} s e = never
    (sym (ap (λ (n : ℕ). bit n x) e ∙ bit_none x) ∙ s.same x ∙ ∈-has {q = x} {l = x ∷ l} (Memᴰ.head refl))

pub stands-some : {set : ℕ} {l : List ℕ} → Stands set l → set ≢ 0 → (x : ℕ) × (xs : List ℕ) × (l ≡ x ∷ xs)
unfolding has
stands-some {set} {l = []} s n = let (i, y) = some-bit set (omega (arith, n)) in never (sym (s.same i) ∙ y)
stands-some {l = x ∷ l} s n = (x, l, refl)

-- ---- members

-- bits below k that agree with the members of a list of numbers below k stand for it
stands-below : {set : ℕ} {l : List ℕ} (k : ℕ) → k ≤ 64 → set < 2 ^ k → SetBelow k l → ((q : ℕ) → q < k → bit set q ≡ has l q) → Stands set l
stands-below {set} {l} k h f b e = record { fits = lt_of_lt_of_le f (pow_mono h); same = λ q. go q (told (ltb q k)) }
  where
    go : (q : ℕ) → Told (ltb q k) → bit set q ≡ has l q
    go q (yea y) = e q (ltb-true q k y)
    go q (nay n) = let a = ltb-false q k n in bit-above k q f a ∙ sym (has_no {l = l} (λ m. let c = b.below q m in omega arith))

-- a set stands for its members
pub members_stand : {set : ℕ} → set < 2 ^ 64 → Stands set (members 64 set)
members_stand {set} h = stands-below 64 (lit≤ tt) h (members_set 64 set) (λ q l. sym (has-members 64 set q l))

-- its members are the list that it stands for, where that ascends
pub stands-members : {set : ℕ} {l : List ℕ} → Stands set l → SetBelow 64 l → members 64 set ≡ l
stands-members {set} {l} s h =
    asc_ext (members 64 set) l (members_set 64 set).ascends h.ascends
    (λ q m. has-∈ l (sym (s.same q) ∙ sym (has-members 64 set q ((members_set 64 set).below q m)) ∙ ∈-has m))
    (λ q m. has-∈ (members 64 set) (has-members 64 set q (h.below q m) ∙ s.same q ∙ ∈-has m))

-- the two words of a list of numbers below k
pub words_stand : {r : ℕ} (k : ℕ) (l : List ℕ) → k ≤ 64 → SetBelow k l → r ≡ mask k (has l) % W + mask k (has l) / W * W → Stands r l
words_stand {r} k l h b e =
    let whole : r ≡ mask k (has l) = omega arith in
    rw whole (stands-below k h (mask-< k (has l)) b (bit_mask k (has l)))

-- ---- one member after another

-- the members gathered in `set`, and those of `rest`, are those of `all`
pub record Gathers (set : ℕ) (rest all : List ℕ) : Type 0 where
  pub fits : set < 2 ^ 64
  pub both : (q : ℕ) → (bit set q || has rest q) ≡ has all q

pub gathers_none : (l : List ℕ) → Gathers 0 l l
gathers_none l = record { fits = lit< tt; both = λ q. ap (λ b. b || has l q) (bit_none q) }

-- the bits of a set with q, where a flag holds
pub bit_with : (flag : Bool) (set q j : ℕ) → set < 2 ^ 64 → q < 64 → bit (mask 64 (λ j. bit set j || (flag && eqb j q))) j ≡
    (bit set j || (flag && eqb j q))
bit_with flag set q j f h = go (told (ltb j 64))
  where
    other : 64 ≤ j → (b : Bool) → (b && eqb j q) ≡ false
    other l true = eqb-false {m = j} {n = q} (λ e. omega arith)
    other l false = refl

    go : Told (ltb j 64) → bit (mask 64 (λ j. bit set j || (flag && eqb j q))) j ≡ (bit set j || (flag && eqb j q))
    go (yea y) = bit_mask 64 _ j (ltb-true j 64 y)
    go (nay n) = let l = ltb-false j 64 n in bit-above 64 j (mask-< 64 _) l ∙ sym (ap₂ ◌||◌ (bit-above 64 j f l) (other l flag))

has-only : (b : Bool) (x : ℕ) (l : List ℕ) (q : ℕ) → has (only b x ++ l) q ≡ ((b && eqb q x) || has l q)
unfolding only has
has-only true x l q = refl
has-only false x l q = refl

pub gathers_more : (flag : Bool) {set : ℕ} (q : ℕ) {r : ℕ} {rest all : List ℕ} → q < 64 → r ≡ mask 64 (λ j. bit set j || (flag && eqb j q))
    → Gathers set (only flag q ++ rest) all → Gathers r rest all
gathers_more flag {set} q {rest = rest} h e g = rw e (record {
  fits = mask-< 64 _;
  both = λ j.
      ap (λ b. b || has rest j) (bit_with flag set q j g.fits h) ∙ or_assoc (bit set j) (flag && eqb j q) (has rest j)
      ∙ ap (λ b. bit set j || b) (sym (has-only flag q rest j)) ∙ g.both j;
})

pub gathers_all : {set : ℕ} {all : List ℕ} → Gathers set [] all → Stands set all
unfolding has
gathers_all {set} g = record { fits = g.fits; same = λ q. sym (or-false (bit set q)) ∙ g.both q }

-- ---- sets with a common member

common_meets : (xs l : List ℕ) (x : ℕ) → Yes (has xs x) → Yes (has l x) → Yes (meets xs l)
unfolding has meets
common_meets [] l x y z = y
common_meets (v ∷ xs) l x y z = go (common_meets xs l x) (or_cases (eqb x v) (has xs x) y)
  where
    go : (Yes (has xs x) → Yes (has l x) → Yes (meets xs l)) → Yes (eqb x v) ⊎ Yes (has xs x) → Yes (has l v || meets xs l)
    go rest (inl e) = or_left (meets xs l) (ap (has l) (sym (same x v e)) ∙ z)
    go rest (inr y) = or_right (has l v) (rest y z)

meets_common : (xs l : List ℕ) → Yes (meets xs l) → (x : ℕ) × Yes (has xs x) × Yes (has l x)
unfolding has meets
meets_common [] l y = never y
meets_common (v ∷ xs) l y = go (meets_common xs l) (or_cases (has l v) (meets xs l) y)
  where
    go : (Yes (meets xs l) → (x : ℕ) × Yes (has xs x) × Yes (has l x)) → Yes (has l v) ⊎ Yes (meets xs l) → (x : ℕ) × Yes
        (eqb x v || has xs x) × Yes (has l x)
    go rest (inl z) = (v, or_left (has xs v) (eqb_yes {m = v} refl), z)
    go rest (inr y) = let (x, u, z) = rest y in (x, or_right (eqb x v) u, z)

-- `a & b != 0`
and-meets : {a b : ℕ} {l m : List ℕ} → Stands a l → Stands b m → not (eqb (bit_and a b) 0) ≡ meets l m
and-meets {a} {b} {l} {m} s t = go (told (meets l m)) (told (eqb (bit_and a b) 0))
  where
    go : Told (meets l m) → Told (eqb (bit_and a b) 0) → not (eqb (bit_and a b) 0) ≡ meets l m
    go (yea y) (nay z) = not_yes z ∙ sym y
    go (nay y) (yea z) = ap not z ∙ sym y
    go (yea y) (yea z) =
        let (x, u, v) = meets_common l m y in
        let one : Yes (bit (bit_and a b) x) = bit-and a b x ∙ and_yes (s.same x ∙ u) (t.same x ∙ v) in
        never (sym (bit_none x) ∙ ap (λ (n : ℕ). bit n x) (sym (same _ 0 z)) ∙ one)
    go (nay y) (nay z) =
        let some : bit_and a b ≢ 0 = eqb_no z in
        let (x, one) = some-bit (bit_and a b) (omega (arith, some)) in
        let both : Yes (bit a x && bit b x) = sym (bit-and a b x) ∙ one in
        never (sym y ∙ common_meets l m x (sym (s.same x) ∙ and_left (bit a x) _ both) (sym (t.same x) ∙ and_right (bit a x) _ both))

pub and-members : {a b : ℕ} → a < 2 ^ 64 → b < 2 ^ 64 → not (eqb (bit_and a b) 0) ≡ meets (members 64 a) (members 64 b)
and-members f g = and-meets (members_stand f) (members_stand g)

-- two sets meet where the lists do that they stand for
pub stands_meet : {a b : ℕ} {l m : List ℕ} → Stands a l → Stands b m → meets (members 64 a) (members 64 b) ≡ meets l m
stands_meet s t = sym (and-members s.fits t.fits) ∙ and-meets s t
