-- Rules chained by a key: of each key the first rule, and after each rule the next with its key. What is passed over along a chain.
use mathlib.Core.Path.{◌≡◌, refl, sym, ap, ◌∙◌}
use mathlib.Core.Logic.{◌≢◌}
use mathlib.Core.List.{List, [], ◌∷◌, ◌++◌, flat_map}
use Prim.Native.Nat.{ℕ, zero, suc, ◌+◌, ◌≤◌, ◌<◌}
use native.Mathlib.Numerals.{add-one}
use native.Mathlib.Omega.{arith}
use lib.ListN.{length, drop, drop_of_length-le}
use lib.Seq.{drop-cons}
use Rattle.model.specs.Sheet.{Rule, one}
use Rattle.model.specs.Index.{nth}

-- the first rule with the key k from index a on is rule i, or there is none and i is the number of rules
pub record First (key : Rule → ℕ) (xs : List Rule) (k a i : ℕ) : Type 0 where
  pub later : a ≤ i
  pub few : i ≤ length xs
  pub there : i < length xs → key (nth xs i) ≡ k
  pub least : (j : ℕ) → a ≤ j → j < i → key (nth xs j) ≢ k

-- rules that give nothing may be passed over
skip : {B : Type 0} (f : Rule → List B) (xs : List Rule) (a b : ℕ) → a ≤ b → ((j : ℕ) → a ≤ j → j < b → f (nth xs j) ≡ []) → flat_map f
    (drop a xs) ≡ flat_map f (drop b xs)
unfolding flat_map
skip f [] a b l h = ap (flat_map f) (drop_of_length-le [] {i = a} (omega arith) ∙ sym (drop_of_length-le [] {i = b} (omega arith)))
skip f (x ∷ xs) zero zero l h = refl
skip f (x ∷ xs) zero (suc b) l h = ap (λ zs. zs ++ flat_map f xs) (h 0 (omega arith) (omega arith)) ∙ skip f xs zero b (omega arith)
    (λ j m n. h (suc j) (omega arith) (omega arith))
skip f (x ∷ xs) (suc a) zero l h = absurd (omega arith)
skip f (x ∷ xs) (suc a) (suc b) l h = skip f xs a b (omega arith) (λ j m n. h (suc j) (omega arith) (omega arith))

-- what is given from the first rule with key k on, where a rule with another key gives nothing
pub past : {key : Rule → ℕ} {xs : List Rule} {B : Type 0} (f : Rule → List B) {k : ℕ} → ((x : Rule) → key x ≢ k → f x ≡ [])
    → {a i : ℕ} → First key xs k a i → flat_map f (drop a xs) ≡ flat_map f (drop i xs)
past {xs = xs} f apart {a} {i} h = skip f xs a i h.later (λ j m n. apart (nth xs j) (h.least j m n))

-- what rule j gives, and those after it
pub rules-next : (xs : List Rule) {n j : ℕ} → length xs ≡ n → j < n → {B : Type 0} (f : Rule → List B) → flat_map f (drop j xs) ≡ f
    (nth xs j) ++ flat_map f (drop (j + 1) xs)
unfolding flat_map
rules-next xs {j = j} number l f = ap (flat_map f)
    (drop-cons xs j (one 0 0) (omega arith)) ∙ ap (λ (k : ℕ). f (nth xs j) ++ flat_map f (drop k xs)) (sym (add-one j))
