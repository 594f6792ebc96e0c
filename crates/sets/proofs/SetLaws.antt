-- Laws of sets as numbers: a mask in two parts; all numbers below k, and those that are not in a set; sets of pairs, row by row.
use mathlib.Core.Path.{◌≡◌, refl, sym, ap, ap₂, ◌∙◌}
use mathlib.Core.Logic.{◌≢◌}
use mathlib.Core.Bool.{Bool, true, false, cond, not, ◌&&◌}
use mathlib.Core.List.{List}
use Prim.Native.Nat.{ℕ, zero, suc, ◌+◌, ◌-◌, ◌*◌, ◌/◌, ◌%◌, ◌^◌, ◌≤◌, ◌<◌, min}
use native.Mathlib.Nat.{zero-add, suc-add, mul_assoc, mul-le-mul_right, pow-suc, mod-lt, div-lt_iff_lt-mul}
use native.Mathlib.Omega.{arith}
use lib.Bits.{bit_and, and_le_l}
use lib.Pow.{pow_pos, pow_mono, shl_exact}
use borrow.Author.Tests as tests
use mir.Val.{bool_byte}
use Rattle.model.specs.Lists.{◌∈◌, has, grid, SetBelow}
use Rattle.model.specs.Sheet.{mask, bit}
use Rattle.model.specs.Compose.{pair, S, T, half}
use Rattle.model.proofs.Tests.{and_yes, and_left, and_right, yes_like}
use Rattle.model.proofs.ListLaws.{∈-has, has-∈, pair_left, pair_right}
use Rattle.model.proofs.Pairs.{either, on_both, ∈_pairs}
use Rattle.model.proofs.SetWords.{bit_mask, mask-<}
use Rattle.bits.proofs.BitLaws.{mask_like, mask_bits, bit-and, shifted_one}
use Rattle.sets.specs.Sets.{all_below, complement, pair_set}

-- ---- masks

-- the lowest a bits, and those above them
mask_parts : (a b : ℕ) (f : ℕ → Bool) → mask (a + b) f ≡ mask a f + mask b (λ i. f (a + i)) * 2 ^ a
unfolding mask
mask_parts zero b f = simp zero-add (omega arith)
mask_parts (suc a) b f =
    simp (suc-add, pow-suc) (omega (arith, mask_parts a b (λ i. f (suc i)), mul_assoc (mask b (λ i. f (suc (a + i)))) (2 ^ a) 2))

-- ---- the numbers below k that are not in a set

pub mask-not : (k : ℕ) (f : ℕ → Bool) → mask k (λ i. not (f i)) + mask k f + 1 ≡ 2 ^ k
unfolding mask
mask-not zero f = refl
mask-not (suc k) f = go (f 0) _ _ (mask-not k (λ i. f (suc i)))
  where
    go : (b : Bool) (n m : ℕ) → n + m + 1 ≡ 2 ^ k → cond (not b) 1 0 + 2 * n + (cond b 1 0 + 2 * m) + 1 ≡ 2 ^ suc k
    go true n m e = omega (arith, pow-suc 2 k)
    go false n m e = omega (arith, pow-suc 2 k)

mask_none : (k : ℕ) → mask k (λ i. false) ≡ 0
unfolding mask
mask_none zero = refl
mask_none (suc k) = omega (arith, mask_none k)

-- all numbers below k
mask-all : (k : ℕ) → mask k (λ i. true) + 1 ≡ 2 ^ k
mask-all k = omega (arith, mask-not k (λ i. false), mask_none k)

module _ (k : ℕ) where
  pub some_power : k < 64 → 1 ≤ (1 * 2 ^ k) % 2 ^ 64
  some_power h = omega (arith, shifted_one k h, pow_pos k)

  pub shifted_all : k < 64 → (1 * 2 ^ k) % 2 ^ 64 - 1 ≡ all_below k
  unfolding all_below
  shifted_all h = let e : min k 64 ≡ k = omega arith in rw e (omega (arith, shifted_one k h, mask-all k))

  pub every-number : 64 ≤ k → 2 ^ 64 - 1 ≡ all_below k
  unfolding all_below
  every-number h = let e : min k 64 ≡ 64 = omega arith in rw e (omega (arith, mask-all 64))

-- ---- the members of a set that are below k, and the numbers below k that are not in it

module _ (set k : ℕ) {all : ℕ} (e : all ≡ all_below k) where
  pub below-is : bit_and all set ≡ mask (min k 64) (bit set)
  unfolding all_below
  below-is =
      let every = mask (min k 64) (λ i. true) in
      rw e (mask_bits (min k 64) (bit_and every set) (bit set) (omega (arith, and_le_l every set, mask-< (min k 64) (λ i. true)))
      (λ i l. bit-and every set i ∙ ap (λ (b : Bool). b && bit set i) (bit_mask (min k 64) (λ i. true) i l)))

  module _ {some : ℕ} (f : some ≡ mask (min k 64) (bit set)) where
    pub some_of_all : some ≤ all
    unfolding all_below
    some_of_all = omega (arith, e, f, mask-all (min k 64), mask-< (min k 64) (bit set))

    pub complement-is : all - some ≡ complement set k
    unfolding all_below complement
    complement-is = omega (arith, e, f, mask-all (min k 64), mask-not (min k 64) (bit set))

-- ---- pairs, row by row

-- whether both halves of a pair are in their sets
abbrev both : (n s t x : ℕ) → Bool
both n s t x = bit s (x / n) && bit t (x % n)

-- the rows below i of at most 64 pairs
pub record Rows (m n s t i set : ℕ) : Type 0 where
  pub some : 1 ≤ n
  pub few : m * n ≤ 64
  pub within : i ≤ m
  pub is : set ≡ mask (i * n) (both n s t)

-- what is told of two numbers: there are no pairs, over 64 pairs, or at most 64
module _ (m n s t : ℕ) where
  pub no_columns : n ≡ 0 → 0 ≡ pair_set m n s t
  unfolding pair_set mask
  no_columns e = let none : m * 0 ≡ 0 = omega arith in rw (e, none)

  pub many_pairs : 64 < m * n → 0 ≡ pair_set m n s t
  unfolding pair_set
  many_pairs h = rw (tests.lt-leb (m * n) 64 h)

  pub few_pairs : m * n ≤ 64 → pair_set m n s t ≡ mask (m * n) (both n s t)
  unfolding pair_set
  few_pairs h = rw (tests.le-leb (m * n) 64 h)

  pub no_rows : n ≢ 0 → m * n ≤ 64 → Rows m n s t 0 0
  unfolding mask
  no_rows other few =
      let none : 0 * n ≡ 0 = omega arith in
      record { some = omega (arith, other); few = few; within = omega arith; is = rw none }

pub all_rows : {m n s t i set : ℕ} → Rows m n s t i set → m ≤ i → set ≡ pair_set m n s t
all_rows {m} {n} {s} {t} {i} h l = let e : i ≡ m = omega (arith, h.within) in h.is ∙ rw e (sym (few_pairs m n s t h.few))

-- one row more: that of i, all members of t below n or none of them
module _ {m n s t i set : ℕ} (h : Rows m n s t i set) (l : i < m) where
  pub row_room : i * n + n ≤ 64
  row_room = let k : suc i * n ≤ m * n = mul-le-mul_right n l in omega (arith, h.few)

  module _ {row : ℕ} {flag : Bool} (f : flag ≡ bit s i) (r : row ≡ mask (min n 64) (bit t)) where
    row_is : row * bool_byte flag ≡ mask n (λ j. flag && bit t j)
    row_is = let e : min n 64 ≡ n = omega (arith, row_room) in rw (r, e) (go flag)
      where
        go : (b : Bool) → mask n (bit t) * bool_byte b ≡ mask n (λ j. b && bit t j)
        go true = omega arith
        go false = omega (arith, mask_none n)

    row_small : row * bool_byte flag < 2 ^ n
    row_small = omega (arith, row_is, mask-< n (λ j. flag && bit t j))

    abbrev with_row : ℕ
    with_row = set + ((row * bool_byte flag) * 2 ^ (i * n)) % 2 ^ 64

    with_row-is : with_row ≡ mask (i * n + n) (both n s t)
    with_row-is =
        let high : row * bool_byte flag ≡ mask n (λ j. both n s t (i * n + j))
        = row_is ∙ mask_like n _ _ (λ j k. ap₂ ◌&&◌ (f ∙ sym (ap (bit s) (pair_left i k))) (sym (ap (bit t) (pair_right i k)))) in
        ap₂ ◌+◌ h.is (shl_exact n (i * n) 64 row_small (omega (arith, row_room)) ∙ ap (λ (x : ℕ). x * 2 ^ (i * n)) high)
        ∙ sym (mask_parts (i * n) n (both n s t))

    pub with_row-fits : with_row < 2 ^ 64
    with_row-fits = omega (arith, with_row-is, mask-< (i * n + n) (both n s t), pow_mono row_room)

    pub one_row_more : Rows m n s t (i + 1) with_row
    one_row_more =
        let e : i * n + n ≡ (i + 1) * n = omega arith in
        record { some = h.some; few = h.few; within = omega arith; is = with_row-is ∙ ap (λ (k : ℕ). mask k (both n s t)) e }

  module _ {row : ℕ} (r : row ≡ mask (min n 64) (bit t)) where
    all_of_row : row * 1 ≡ row
    all_of_row = omega arith

    pub row_fits : true ≡ bit s i → set + (row * 2 ^ (i * n)) % 2 ^ 64 < 2 ^ 64
    row_fits f = rw all_of_row at (with_row-fits {flag = true} f r)

    pub row_in : true ≡ bit s i → Rows m n s t (i + 1) (set + (row * 2 ^ (i * n)) % 2 ^ 64)
    row_in f = rw all_of_row at (one_row_more {flag = true} f r)

    pub row_out : false ≡ bit s i → Rows m n s t (i + 1) set
    row_out f =
        let none : row * 0 ≡ 0 = omega arith in
        let same : set + (0 * 2 ^ (i * n)) % 2 ^ 64 ≡ set = omega arith in
        rw same at (rw none at (one_row_more {flag = false} f r))

-- ---- pairs of two sets

module _ {a b : ℕ} {l m : List ℕ} (h : SetBelow a l) (k : SetBelow b m) where
  has_pairs : (x : ℕ) → has (grid (pair b) l m) x ≡ has l (x / b) && has m (x % b)
  has_pairs x =
      let (there, back) = ∈_pairs b (either l m) k.below x in
      yes_like _ _ (λ t. let halves = there (has-∈ _ t) in and_yes (∈-has (halves S)) (∈-has (halves T))) (λ t.
      let s = has-∈ l (and_left (has l (x / b)) (has m (x % b)) t) in
      let t = has-∈ m (and_right (has l (x / b)) (has m (x % b)) t) in
      ∈-has (back (on_both (λ side. half side b x ∈ either l m side) s t)))

  pub pairs_mask : 1 ≤ b
      → mask (a * b) (λ x. bit (mask a (has l)) (x / b) && bit (mask b (has m)) (x % b)) ≡ mask (a * b) (has (grid (pair b) l m))
  pairs_mask some =
      mask_like (a * b) _ _ (λ x i.
      ap₂ ◌&&◌ (bit_mask a (has l) (x / b) ((div-lt_iff_lt-mul some).1 i)) (bit_mask b (has m) (x % b) (mod-lt x some)) ∙ sym (has_pairs x))
