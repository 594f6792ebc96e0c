-- The rules of a sheet one after the other, by its index.
use mathlib.Core.Path.{◌≡◌, refl, sym}
use mathlib.Core.Logic.{◌≢◌}
use mathlib.Core.List.Memᴰ
use mathlib.Core.List.{List, [], ◌∷◌, flat_map}
use Prim.Native.Nat.{ℕ, ◌+◌, ◌/◌, ◌^◌, ◌≤◌, ◌<◌}
use native.Mathlib.Omega.{arith}
use lib.Dec.{eqb}
use lib.ListN.{length, get_or, drop, drop_of_length-le}
use Rattle.model.specs.Lists.{◌∈◌, only}
use Rattle.model.specs.Sheet.{Rule, one, two, three, RuleInRange}
use Rattle.model.specs.Index.{sheet_in, rules_in, key, Indexed}
use Rattle.model.proofs.Tests.{eqb_yes, eqb_no, eqb-false, Told, yea, nay, told}
use Rattle.model.proofs.PassedLaws.{in_range}
use Rattle.model.proofs.IndexLaws.{index-room, chain_first, chain_next, chain_few}
use Rattle.indexed.specs.Spots.{rule_in, HasKey}
use Rattle.indexed.specs.Walks.{with_key}

-- there is an entry for each rule, and one more
pub entry-there : {s index : List ℕ} (h : Indexed s index) {k : ℕ} → k ≤ length (rules_in s) → (67 + k < length index) × (k ≤ 1024)
entry-there h l = (omega (arith, index-room h), omega (arith, (in_range h.sheet).few_rules))

pub heads-there : {s index : List ℕ} (h : Indexed s index) {k : ℕ} → k < 67 → k < length index
heads-there h l = omega (arith, index-room h)

-- ---- those with one key

apart : (k : ℕ) (x : Rule) → key x ≢ k → only (eqb (key x) k) x ≡ []
unfolding only
apart k x d = rw (eqb-false {m = key x} {n = k} d) refl

key-few : (p : ℕ) {g : ℕ} (x : Rule) → g ≤ 64 → RuleInRange p g x → key x < 67
unfolding key
key-few p (one k q) l h = omega (arith, h.1)
key-few p (two a c q) l h = omega (arith, h.1)
key-few p (three o c q) l h = omega arith

no_key : {k : ℕ} (R : List Rule) → 67 ≤ k → ((x : Rule) → x ∈ R → key x < 67) → with_key k R ≡ []
unfolding flat_map
no_key [] l f = refl
no_key {k} (x ∷ R) l f =
    rw (apart k x (λ e. absurd (omega (arith, f x (Memᴰ.head refl))))) (no_key R l (λ y m. f y (Memᴰ.tail m)))

module _ {s index : List ℕ} (h : Indexed s index) {k : ℕ} where
  pub chain_none : 67 ≤ k → with_key k (rules_in s) ≡ []
  chain_none l = no_key (rules_in s) l (λ x m. key-few (sheet_in s).states x (in_range h.sheet).few_tags ((in_range h.sheet).rules x m))

  -- the index tells the first of them
  pub chain_begun : {i : ℕ} → k < 67 → i ≡ get_or index k 0
      → HasKey s i k × (with_key k (drop i (rules_in s)) ≡ with_key k (rules_in s))
  chain_begun l e =
      let (all, there) = chain_first h (λ r. only (eqb (key r) k) r) (apart k) l e in
      (record { has_key = there }, sym all)

  -- the entry of rule j tells the next of them
  pub chain_on : {j i : ℕ} → j < length (rules_in s) → HasKey s j k → i ≡ get_or index (67 + j) 0 / 2 ^ 16
      → HasKey s i k × (with_key k (drop j (rules_in s)) ≡ rule_in s j ∷ with_key k (drop i (rules_in s))) × (j < i)
  unfolding only
  chain_on {j} {i} l on e =
      let (next, there) = chain_next h (λ r. only (eqb (key r) k) r) (apart k) l (on.has_key l) e in
      (record { has_key = there }, rw (eqb_yes (on.has_key l)) at next, (chain_few h l e).0)

-- past the last rule none is left
pub chain_over : (k : ℕ) (R : List Rule) {j : ℕ} → length R ≤ j → with_key k (drop j R) ≡ []
unfolding flat_map
chain_over k R {j} l = rw (drop_of_length-le R {i = j} l) refl

-- ---- what the rules with a key give, where others give nothing

pub with_key-all : {B : Type 0} (f : Rule → List B) {k : ℕ} → ((x : Rule) → key x ≢ k → f x ≡ []) → (R : List Rule)
    → flat_map f (with_key k R) ≡ flat_map f R
unfolding flat_map only
with_key-all f none [] = refl
with_key-all f {k} none (x ∷ R) = go (told (eqb (key x) k)) (with_key-all f none R)
  where
    go : Told (eqb (key x) k) → flat_map f (with_key k R) ≡ flat_map f R → flat_map f (with_key k (x ∷ R)) ≡ flat_map f (x ∷ R)
    go (yea t) e = rw (t, e) refl
    go (nay t) e = rw (t, none x (eqb_no {m = key x} {n = k} t), e) refl
