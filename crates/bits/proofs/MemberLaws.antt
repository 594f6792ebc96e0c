-- The members of a set of bits, lowest first: how many, the lowest, and those but the lowest, as the machine finds them.
use mathlib.Core.Path.{◌≡◌, refl, sym, ap, ap₂, ◌∙◌}
use mathlib.Core.Logic.{◌≢◌}
use mathlib.Core.Bool.{Bool, true, false}
use mathlib.Core.List.{List, [], ◌∷◌, ◌++◌, map, flat_map}
use Prim.Native.Nat.{ℕ, zero, suc, ◌+◌, ◌-◌, ◌*◌, ◌/◌, ◌%◌, ◌^◌, ◌<◌}
use native.Mathlib.Nat.{pow-suc}
use native.Mathlib.Omega.{arith}
use lib.Bits.{bit_and, and_step, and_self}
use lib.Count.{ones_in, ones, ones_step, under, count_trailing_zeros}
use lib.Dec.{eqb}
use lib.ListN.{length, get_or, drop, length-map, get_or-map}
use Rattle.model.specs.Lists.{only, from}
use Rattle.model.specs.Sheet.{bit, members}
use Rattle.model.proofs.ListLaws.{map-append}
use Rattle.bits.proofs.BitLaws.{bit-first, bit-suc}
use Rattle.bits.proofs.SetLaws.{stands_none, stands-some, members_stand}

-- ---- one member at a time

-- the numbers from q + 1 on whose bit stands are one more than those from q on of the half
members-from : (k q n : ℕ) → flat_map (λ i. only (bit n i) i) (from k (suc q)) ≡ map suc (flat_map (λ i. only (bit (n / 2) i) i) (from k q))
unfolding from flat_map only
members-from zero q n = refl
members-from (suc k) q n =
    ap₂ {C = List ℕ} ◌++◌ (ap (λ (b : Bool). only b (suc q)) (bit-suc n q) ∙ above (bit (n / 2) q)) (members-from k (suc q) n)
    ∙ sym (map-append suc (only (bit (n / 2) q) q) _)
  where
    above : (b : Bool) → only b (suc q) ≡ map suc (only b q)
    above true = refl
    above false = refl

-- by the lowest bit, 0 is a member or not; the others are one more than those of the half
abbrev placed : ℕ → List ℕ → List ℕ
placed zero l = map suc l
placed (suc d) l = 0 ∷ map suc l

members-suc : (k n : ℕ) → members (suc k) n ≡ placed (n % 2) (members k (n / 2))
unfolding members from flat_map only
members-suc k n =
    ap₂ {C = List ℕ} ◌++◌ (ap (λ (b : Bool). only b 0) (bit-first n)) (members-from k 0 n) ∙ go (n % 2) (omega arith) (members k (n / 2))
  where
    go : (d : ℕ) → d < 2 → (l : List ℕ) → only (eqb d 1) 0 ++ map suc l ≡ placed d l
    go zero h l = refl
    go (suc zero) h l = refl
    go (suc (suc d)) h l = absurd (omega arith)

-- ---- what the machine counts and finds

ones_up_to : (k n : ℕ) → n < 2 ^ k → ones n ≡ ones_in k n
unfolding ones ones_in
ones_up_to zero n h = let e : n ≡ 0 = omega arith in ap ones e
ones_up_to (suc k) n h = ones_step n ∙ ap (λ (x : ℕ). n % 2 + x) (ones_up_to k (n / 2) (omega (arith, pow-suc 2 k)))

members_ones : (k n : ℕ) → ones_in k n ≡ length (members k n)
unfolding ones_in members flat_map from
members_ones zero n = refl
members_ones (suc k) n = rw (members-suc k n, members_ones k (n / 2)) (go (n % 2) (omega arith) (members k (n / 2)))
  where
    go : (d : ℕ) → d < 2 → (l : List ℕ) → d + length l ≡ length (placed d l)
    go zero h l = omega (arith, length-map l suc)
    go (suc zero) h l = omega (arith, length-map l suc)
    go (suc (suc d)) h l = absurd (omega arith)

pub size_is : (k n : ℕ) → n < 2 ^ k → ones n ≡ length (members k n)
size_is k n h = ones_up_to k n h ∙ members_ones k n

pub lowest_is : (k n : ℕ) → count_trailing_zeros k n ≡ get_or (members k n) 0 k
unfolding count_trailing_zeros members flat_map from
lowest_is zero n = refl
lowest_is (suc k) n = rw (members-suc k n, lowest_is k (n / 2)) (go (n % 2) (members k (n / 2)))
  where
    go : (d : ℕ) (l : List ℕ) → under d (get_or l 0 k) ≡ get_or (placed d l) 0 (suc k)
    go zero l = sym (get_or-map suc l 0 k)
    go (suc d) l = refl

-- `n & (n - 1)`: n without its lowest member
and_even : (n : ℕ) → n % 2 ≡ 0 → bit_and n (n - 1) ≡ bit_and (n / 2) (n / 2 - 1) * 2
and_even n e = let below : (n - 1) / 2 ≡ n / 2 - 1 = omega arith in omega (arith, and_step n (n - 1), ap (bit_and (n / 2)) below)

and_odd : (n d : ℕ) → n % 2 ≡ suc d → bit_and n (n - 1) ≡ n / 2 * 2
and_odd n d e = let below : (n - 1) / 2 ≡ n / 2 = omega arith in
    omega (arith, and_step n (n - 1), ap (bit_and (n / 2)) below, and_self (n / 2))

members_even : (k h : ℕ) → members (suc k) (h * 2) ≡ map suc (members k h)
members_even k h =
    let half : h * 2 / 2 ≡ h = omega arith in
    let even : h * 2 % 2 ≡ 0 = omega arith in
    members-suc k (h * 2) ∙ rw (even, half)

pub without_is : (k n : ℕ) → members k (bit_and n (n - 1)) ≡ drop 1 (members k n)
unfolding members flat_map from
without_is zero n = refl
without_is (suc k) n = rw (members-suc k n) (go (n % 2) refl (without_is k (n / 2)))
  where
    go : (d : ℕ) → n % 2 ≡ d → members k (bit_and (n / 2) (n / 2 - 1)) ≡ drop 1 (members k (n / 2))
        → members (suc k) (bit_and n (n - 1)) ≡ drop 1 (placed d (members k (n / 2)))
    go zero e rest = ap (members (suc k)) (and_even n e) ∙ members_even k _ ∙ ap (map suc) rest ∙ under_map (members k (n / 2))
      where
        under_map : (l : List ℕ) → map suc (drop 1 l) ≡ drop 1 (map suc l)
        under_map [] = refl
        under_map (x ∷ l) = refl
    go (suc d) e rest = ap (members (suc k)) (and_odd n d e) ∙ members_even k (n / 2)

-- a set other than 0 is its lowest member and the set without it
pub members_first : (n : ℕ) → n < 2 ^ 64 → n ≢ 0
    → members 64 n ≡ count_trailing_zeros 64 n ∷ members 64 (bit_and n (n - 1))
members_first n h d =
    let (x, xs, e) = stands-some (members_stand h) d in
    rw (lowest_is 64 n, without_is 64 n, e) refl

pub members_none : {n : ℕ} → n ≡ 0 → members 64 n ≡ []
members_none {n} e = let h : n < 2 ^ 64 = omega arith in stands_none (members_stand h) e
