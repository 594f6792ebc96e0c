-- A set of numbers as a mask and as two words: its members are those of the mask, and the two words are read as the set.
use mathlib.Core.Path.{◌≡◌, refl, sym, ap, ◌∙◌}
use mathlib.Core.Logic.{◌≢◌, ◌↔◌}
use mathlib.Core.Bool.{Bool, true, false, cond}
use mathlib.Core.List.{List}
use Prim.Native.Nat.{ℕ, zero, suc, ◌+◌, ◌-◌, ◌*◌, ◌/◌, ◌%◌, ◌^◌, ◌≤◌, ◌<◌, min}
use native.Mathlib.Nat.{div-one, pow-suc}
use native.Mathlib.Numerals.{one-add}
use native.Mathlib.Omega.{arith}
use lib.Dec.{eqb, leb}
use lib.Pow.{pow-add, pow_mono, shr-shr}
use borrow.Author.Tests as tests
use Rattle.model.specs.Lists.{◌∈◌, has, only, numbers, SetBelow}
use Rattle.model.specs.Sheet.{W, mask, set_words, bit, members, set_below}
use Rattle.model.proofs.Tests.{Yes, Told, yea, nay, told, eqb_yes, eqb-false}
use Rattle.model.proofs.ListLaws.{∈-has, has-∈, ∈-only, only_test, only_eq, ∈-each, each-∈, ∈-numbers, asc_ext, asc_filter}
use Rattle.model.proofs.Spans.{Reads, reads_by, then_makes, given, below-reads}

-- ---- bits

-- the lowest bit is the remainder by 2, the others are the bits of the half
bit_zero : (n : ℕ) → bit n 0 ≡ eqb (n % 2) 1
unfolding bit
bit_zero n = ap (λ (x : ℕ). eqb (x % 2) 1) (div-one n)

bit-suc : (n i : ℕ) → bit n (suc i) ≡ bit (n / 2) i
unfolding bit
bit-suc n i = ap (λ (x : ℕ). eqb (n / 2 ^ x % 2) 1) (sym (one-add i)) ∙ ap (λ (x : ℕ). eqb (x % 2) 1) (sym (shr-shr n 1 i))

digit_≤ : (b : Bool) → cond b 1 0 ≤ 1
digit_≤ true = omega arith
digit_≤ false = omega arith

digit_bit : (b : Bool) (m : ℕ) → eqb ((cond b 1 0 + 2 * m) % 2) 1 ≡ b
digit_bit true m = let e : (1 + 2 * m) % 2 ≡ 1 = omega arith in eqb_yes e
digit_bit false m = let e : (0 + 2 * m) % 2 ≢ 1 = omega arith in eqb-false e

bit_digit : (n : ℕ) → cond (eqb (n % 2) 1) 1 0 ≡ n % 2
bit_digit n = go (n % 2) (omega arith)
  where
    go : (d : ℕ) → d < 2 → cond (eqb d 1) 1 0 ≡ d
    go zero h = refl
    go (suc zero) h = refl
    go (suc (suc d)) h = absurd (omega arith)

-- ---- masks

-- the bits of a mask
pub bit_mask : (k : ℕ) (f : ℕ → Bool) (i : ℕ) → i < k → bit (mask k f) i ≡ f i
unfolding mask
bit_mask zero f i h = absurd (omega arith)
bit_mask (suc k) f zero h = bit_zero _ ∙ digit_bit (f 0) (mask k (λ i. f (suc i)))
bit_mask (suc k) f (suc i) h =
    let m = mask k (λ i. f (suc i)) in
    let half : (cond (f 0) 1 0 + 2 * m) / 2 ≡ m = omega (arith, digit_≤ (f 0)) in
    bit-suc _ i ∙ ap (λ (n : ℕ). bit n i) half ∙ bit_mask k (λ i. f (suc i)) i (omega arith)

pub mask-< : (k : ℕ) (f : ℕ → Bool) → mask k f < 2 ^ k
unfolding mask
mask-< zero f = omega arith
mask-< (suc k) f = omega (arith, mask-< k (λ i. f (suc i)), pow-suc 2 k, digit_≤ (f 0))

-- a number is the mask of its bits
mask_bits : (k n : ℕ) (f : ℕ → Bool) → n < 2 ^ k → ((i : ℕ) → i < k → f i ≡ bit n i) → mask k f ≡ n
unfolding mask
mask_bits zero n f h e = omega arith
mask_bits (suc k) n f h e =
    let rest : mask k (λ i. f (suc i)) ≡ n / 2 = mask_bits k (n / 2) (λ i. f (suc i)) (omega (arith, pow-suc 2 k))
    (λ i l. e (suc i) (omega arith) ∙ bit-suc n i) in
    let first : cond (f 0) 1 0 ≡ n % 2 = ap (λ (b : Bool). cond b 1 0) (e 0 (omega arith) ∙ bit_zero n) ∙ bit_digit n in
    omega arith

-- ---- members

-- the members of a number are the places below k where its bits stand
∈-members : (k n i : ℕ) → i < k → Yes (bit n i) → i ∈ members k n
unfolding members
∈-members k n i h t = ∈-each (λ j. only (bit n j) j) (∈-numbers k h) (∈-only (bit n i) i t)

members-bit : (k n i : ℕ) → i ∈ members k n → Yes (bit n i)
unfolding members
members-bit k n i m = let (j, l, t) = each-∈ (λ j. only (bit n j) j) (numbers k) m in ap (bit n) (only_eq (bit n j) j t) ∙ only_test
    (bit n j) j t

pub members_set : (k n : ℕ) → SetBelow k (members k n)
unfolding members
members_set k n = asc_filter (bit n) k

-- a number below k is a member exactly if its bit stands
pub has-members : (k n i : ℕ) → i < k → has (members k n) i ≡ bit n i
has-members k n i h = go (told (bit n i)) (told (has (members k n) i))
  where
    go : Told (bit n i) → Told (has (members k n) i) → has (members k n) i ≡ bit n i
    go (yea t) u = ∈-has (∈-members k n i h t) ∙ sym t
    go (nay t) (yea u) = u ∙ sym (members-bit k n i (has-∈ (members k n) u))
    go (nay t) (nay u) = u ∙ sym t

-- a set is the members of its mask, and a number the mask of its members
pub members-mask : (k : ℕ) (l : List ℕ) → SetBelow k l → members k (mask k (has l)) ≡ l
members-mask k l h =
    let n = mask k (has l) in
    asc_ext (members k n) l (members_set k n).ascends h.ascends
    (λ q m. has-∈ l (sym (bit_mask k (has l) q ((members_set k n).below q m)) ∙ members-bit k n q m))
    (λ q m. ∈-members k n q (h.below q m) (bit_mask k (has l) q (h.below q m) ∙ ∈-has m))

pub mask-members : (k n : ℕ) → n < 2 ^ k → mask k (has (members k n)) ≡ n
mask-members k n h = mask_bits k n (has (members k n)) h (has-members k n)

-- ---- two words

-- a number is below 2 ^ k exactly if its low and its high 32 bits are in the ranges of the two words
two_words : (k n : ℕ) → n < 2 ^ k ↔ ((n % W < 2 ^ min k 32) × (n / W < 2 ^ (k - 32)))
two_words k n = go (told (leb k 32))
  where
    go : Told (leb k 32) → n < 2 ^ k ↔ ((n % W < 2 ^ min k 32) × (n / W < 2 ^ (k - 32)))
    go (yea t) =
        let h : k ≤ 32 = tests.leb-true k 32 t in
        let el : min k 32 ≡ k = omega arith in
        let eh : k - 32 ≡ 0 = omega arith in
        let all : 2 ^ k ≤ W = pow_mono h in
        rw (el, eh) (λ l. (omega arith, omega arith), λ (l, m). omega arith)
    go (nay t) =
        let h : 32 < k = tests.leb-false k 32 t in
        let el : min k 32 ≡ 32 = omega arith in
        let ek : k ≡ 32 + (k - 32) = omega arith in
        let all : 2 ^ k ≡ W * 2 ^ (k - 32) = ap (λ (j : ℕ). 2 ^ j) ek ∙ pow-add 2 32 (k - 32) in
        rw (el, all) (λ l. (omega arith, omega arith), λ (l, m). omega arith)

-- the two words of a set
pub set_reads : (k : ℕ) → Reads (set_below k) (set_words k) (SetBelow k)
unfolding set_below set_words
set_reads k =
    reads_by (then_makes (below-reads (2 ^ min k 32)) (λ low _. given (below-reads (2 ^ (k - 32))) (λ high. members k (low + high * W))))
    (λ (low, high) (h, i).
    let n = low + high * W in
    let small : 2 ^ min k 32 ≤ W = pow_mono {i = min k 32} {j = 32} (omega arith) in
    let el : n % W ≡ low = omega arith in
    let eh : n / W ≡ high = omega arith in
    let e = mask-members k n ((two_words k n).1 (rw el h, rw eh i)) in
    (members_set k n, rw (e, el, eh)))
    (λ l h.
    let n = mask k (has l) in
    let e : n % W + n / W * W ≡ n = omega arith in
    ((n % W, n / W), (two_words k n).0 (mask-< k (has l)), rw e (members-mask k l h), refl))
