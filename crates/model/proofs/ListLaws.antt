-- Laws of lists: members, concatenating maps, ranges, pairs as numbers, ascending lists.
use mathlib.Core.Path.{◌≡◌, refl, sym, ap, ap₂, ◌∙◌, subst}
use mathlib.Core.Logic.{◌⊎◌, inl, inr, ◌↔◌}
use mathlib.Core.Bool.{Bool, true, false, ◌&&◌}
use mathlib.Core.List.Memᴰ
use mathlib.Core.List.{List, [], ◌∷◌, ◌++◌, map, flat_map, append_assoc}
use Prim.Native.Nat.{ℕ, zero, suc, ◌+◌, ◌-◌, ◌*◌, ◌/◌, ◌%◌, ◌≤◌, ◌<◌}
use native.Mathlib.Nat.{mul-le-mul_right, suc-mul}
use native.Mathlib.Numerals.{add-one}
use native.Mathlib.Omega.{arith}
use lib.Arith.{digits_div, digits_mod}
use lib.Dec.{eqb}
use lib.ListN.{length, get_or, drop, length-append, drop_of_length-le}
use lib.Seq.{drop-cons}
use Rattle.model.specs.Lists.{◌∈◌, has, every, only, from, numbers, row, grid, Ascending, SetBelow}
use Rattle.model.specs.Compose.{pair}
use Rattle.model.proofs.Tests.{Yes, Told, yea, nay, told, never, and_yes, and_left, and_right, or_left, or_right, or_cases, same}
use Rattle.model.proofs.Tests.{eqb_yes}

-- ---- tests over a list

pub ∈-has : {q : ℕ} {l : List ℕ} → q ∈ l → Yes (has l q)
unfolding has
∈-has {q} (Memᴰ.head {x = x} {xs = l} e) = or_left (has l q) (eqb_yes e)
∈-has {q} (Memᴰ.tail {x = x} {xs = l} m) = or_right (eqb q x) (∈-has m)

pub has-∈ : (l : List ℕ) {q : ℕ} → Yes (has l q) → q ∈ l
unfolding has
has-∈ [] t = never t
has-∈ (x ∷ l) {q} t = go (λ s. has-∈ l s) (or_cases (eqb q x) (has l q) t)
  where
    go : (Yes (has l q) → q ∈ l) → Yes (eqb q x) ⊎ Yes (has l q) → q ∈ x ∷ l
    go r (inl s) = Memᴰ.head (same q x s)
    go r (inr s) = Memᴰ.tail (r s)

pub has_no : {l : List ℕ} {q : ℕ} → (q ∈ l → ⊥) → has l q ≡ false
has_no {l} {q} f = go (told (has l q))
  where
    go : Told (has l q) → has l q ≡ false
    go (yea e) = absurd (f (has-∈ l e))
    go (nay e) = e

every_member : {A : Type 0} (f : A → Bool) (a : A) {l : List A} → a ∈ l → Yes (every f l) → Yes (f a)
unfolding every
every_member f a (Memᴰ.head {x = x} {xs = xs} e) t = subst (λ y. Yes (f y)) (sym e) (and_left (f x) (every f xs) t)
every_member f a (Memᴰ.tail {x = x} {xs = xs} m) t = every_member f a m (and_right (f x) (every f xs) t)

pub every-∈ : {A : Type 0} (f : A → Bool) {l : List A} → Yes (every f l) → (a : A) → a ∈ l → Yes (f a)
every-∈ f t a m = every_member f a m t

pub ∈-every : {A : Type 0} (f : A → Bool) (l : List A) → ((a : A) → a ∈ l → Yes (f a)) → Yes (every f l)
unfolding every
∈-every f [] h = refl
∈-every f (x ∷ l) h = and_yes (h x (Memᴰ.head refl)) (∈-every f l (λ a m. h a (Memᴰ.tail m)))

-- a test of a first element and the others, and of all of two lists
pub every-cons : {A : Type 0} (f : A → Bool) (x : A) (l : List A) → Yes (every f (x ∷ l)) → Yes (f x) × Yes (every f l)
unfolding every
every-cons f x l t = (and_left (f x) (every f l) t, and_right (f x) (every f l) t)

pub every_append : {A : Type 0} (f : A → Bool) (l m : List A) → Yes (every f (l ++ m)) → Yes (every f l) × Yes (every f m)
unfolding every
every_append f [] m t = (refl, t)
every_append f (x ∷ l) m t =
    let (u, v) = every-cons f x (l ++ m) t in
    let (v₁, v₂) = every_append f l m v in
    (and_yes u v₁, v₂)

pub every-both : {A : Type 0} (f : A → Bool) (l m : List A) → Yes (every f l) → Yes (every f m) → Yes (every f (l ++ m))
unfolding every
every-both f [] m t u = u
every-both f (x ∷ l) m t u = let (a, b) = every-cons f x l t in and_yes a (every-both f l m b u)

-- a test of every number, from place i on
module _ (f : ℕ → Bool) (s : List ℕ) (i : ℕ) where
  pub every-at : i < length s → every f (drop i s) ≡ (f (get_or s i 0) && every f (drop (i + 1) s))
  unfolding every
  every-at h = rw (add-one, drop-cons s i 0 h)

  pub every_yes : i < length s → f (get_or s i 0) ≡ true → every f (drop i s) ≡ every f (drop (i + 1) s)
  every_yes h e = every-at h ∙ rw e

  pub every_no : i < length s → f (get_or s i 0) ≡ false → every f (drop i s) ≡ false
  every_no h e = every-at h ∙ rw e

  pub every-end : length s ≤ i → every f (drop i s) ≡ true
  unfolding every
  every-end h = rw (drop_of_length-le s {i = i} h)

-- ---- only

pub ∈-only : {A : Type 0} (b : Bool) (a : A) → Yes b → a ∈ only b a
unfolding only
∈-only true a t = Memᴰ.head refl
∈-only false a t = never t

pub only_test : {A : Type 0} (b : Bool) (a : A) {x : A} → x ∈ only b a → Yes b
unfolding only
only_test true a m = refl
only_test false a m = absurd (Memᴰ.not-nil m)

pub only_eq : {A : Type 0} (b : Bool) (a : A) {x : A} → x ∈ only b a → x ≡ a
unfolding only
only_eq true a m = Memᴰ.eq_of_singleton m
only_eq false a m = absurd (Memᴰ.not-nil m)

pub length-only : {A : Type 0} (b : Bool) (a : A) → length (only b a) ≤ 1
unfolding only
length-only true a = omega arith
length-only false a = omega arith

-- ---- concatenating maps

pub ∈-each : {A B : Type 0} (f : A → List B) {a : A} {b : B} {l : List A} → a ∈ l → b ∈ f a → b ∈ flat_map f l
unfolding flat_map
∈-each f {b = b} (Memᴰ.head {xs = xs} e) m = Memᴰ.append_left (flat_map f xs) (subst (λ x. b ∈ f x) e m)
∈-each f (Memᴰ.tail {x = x} n) m = Memᴰ.append_right (f x) (∈-each f n m)

-- where a member of a concatenating map comes from
pub each-∈ : {A B : Type 0} (f : A → List B) (l : List A) {b : B} → b ∈ flat_map f l → (a : A) × (a ∈ l) × (b ∈ f a)
unfolding flat_map
each-∈ f [] m = absurd (Memᴰ.not-nil m)
each-∈ {A} {B} f (x ∷ xs) {b} m = go (λ n. each-∈ f xs n) (Memᴰ.append_cases (f x) m)
  where
    go : (b ∈ flat_map f xs → (a : A) × (a ∈ xs) × (b ∈ f a)) → (b ∈ f x) ⊎ (b ∈ flat_map f xs) → (a : A) × (a ∈ x ∷ xs) × (b ∈ f a)
    go r (inl n) = (x, Memᴰ.head refl, n)
    go r (inr n) = let (a, s, t) = r n in (a, Memᴰ.tail s, t)

pub each_append : {A B : Type 0} (f : A → List B) (l m : List A) → flat_map f (l ++ m) ≡ flat_map f l ++ flat_map f m
unfolding flat_map
each_append f [] m = refl
each_append f (x ∷ xs) m = ap (λ r. f x ++ r) (each_append f xs m) ∙ sym (append_assoc (f x) (flat_map f xs) (flat_map f m))

pub length-each : {A B : Type 0} (f : A → List B) (k : ℕ) → ((a : A) → length (f a) ≤ k) → (l : List A) → length
    (flat_map f l) ≤ k * length l
unfolding flat_map
length-each f k h [] = omega arith
length-each f k h (x ∷ xs) = omega (arith, length-append (f x) (flat_map f xs), h x, length-each f k h xs)

-- ---- map

pub ∈-map : {A B : Type 0} (f : A → B) {a : A} {l : List A} → a ∈ l → f a ∈ map f l
∈-map f (Memᴰ.head e) = Memᴰ.head (ap f e)
∈-map f (Memᴰ.tail m) = Memᴰ.tail (∈-map f m)

pub map-∈ : {A B : Type 0} (f : A → B) (l : List A) {b : B} → b ∈ map f l → (a : A) × (a ∈ l) × (b ≡ f a)
map-∈ f [] m = absurd (Memᴰ.not-nil m)
map-∈ f (x ∷ l) (Memᴰ.head e) = (x, Memᴰ.head refl, e)
map-∈ f (x ∷ l) (Memᴰ.tail m) = let (a, n, e) = map-∈ f l m in (a, Memᴰ.tail n, e)

pub map-append : {A B : Type 0} (f : A → B) (l m : List A) → map f (l ++ m) ≡ map f l ++ map f m
map-append f [] m = refl
map-append f (x ∷ l) m = ap (λ r. f x ∷ r) (map-append f l m)

pub map_each : {A B C : Type 0} (g : B → C) (f : A → List B) (l : List A) → map g (flat_map f l) ≡ flat_map (λ a. map g (f a)) l
unfolding flat_map
map_each g f [] = refl
map_each g f (a ∷ l) = map-append g (f a) (flat_map f l) ∙ ap (λ r. map g (f a) ++ r) (map_each g f l)

-- ---- ranges of numbers

pub ∈-from : {i : ℕ} (n q : ℕ) → q ≤ i → i < q + n → i ∈ from n q
unfolding from
∈-from zero q h k = absurd (omega arith)
∈-from {i} (suc n) q h k = go (eqb i q) refl (λ l. ∈-from n (suc q) l (omega arith))
  where
    go : (b : Bool) → eqb i q ≡ b → (suc q ≤ i → i ∈ from n (suc q)) → i ∈ q ∷ from n (suc q)
    go true e r = Memᴰ.head (same i q e)
    go false e r = let d = eqb_apart e in Memᴰ.tail (r (omega arith))
      where
        eqb_apart : eqb i q ≡ false → i ≡ q → ⊥
        eqb_apart e f = absurd (never (sym e ∙ eqb_yes f))

pub from-∈ : {i : ℕ} (n q : ℕ) → i ∈ from n q → (q ≤ i) × (i < q + n)
unfolding from
from-∈ zero q m = absurd (Memᴰ.not-nil m)
from-∈ {i} (suc n) q m = go (λ k. from-∈ n (suc q) k) (Memᴰ.cases_cons m)
  where
    go : (i ∈ from n (suc q) → (suc q ≤ i) × (i < suc q + n)) → (i ≡ q) ⊎ (i ∈ from n (suc q)) → (q ≤ i) × (i < q + suc n)
    go r (inl e) = (omega arith, omega arith)
    go r (inr k) = let (a, b) = r k in (omega arith, omega arith)

pub ∈-numbers : {i : ℕ} (n : ℕ) → i < n → i ∈ numbers n
∈-numbers n h = ∈-from n 0 (omega arith) (omega arith)

pub numbers-< : {i : ℕ} (n : ℕ) → i ∈ numbers n → i < n
numbers-< n m = let (a, b) = from-∈ n 0 m in omega arith

-- the numbers from i up to n, the first of them by itself
pub from_next : (i n : ℕ) → i < n → from (n - i) i ≡ i ∷ from (n - (i + 1)) (i + 1)
unfolding from
from_next i n h = let e : n - i ≡ suc (n - (i + 1)) = omega arith in rw (e, add-one i)

pub length_from : (n q : ℕ) → length (from n q) ≡ n
unfolding from
length_from zero q = refl
length_from (suc n) q = ap suc (length_from n (suc q))

pub ∈_filter : (f : ℕ → Bool) (k q : ℕ) → (q ∈ flat_map (λ i. only (f i) i) (numbers k)) ↔ ((q < k) × Yes (f q))
∈_filter f k q = (there, λ (h, t). ∈-each (λ i. only (f i) i) (∈-numbers k h) (∈-only (f q) q t))
  where
    there : q ∈ flat_map (λ i. only (f i) i) (numbers k) → (q < k) × Yes (f q)
    there m =
        let (i, l, h) = each-∈ (λ i. only (f i) i) (numbers k) m in
        subst (λ (x : ℕ). (x < k) × Yes (f x)) (sym (only_eq (f i) i h)) (numbers-< k l, only_test (f i) i h)

-- ---- f of each pair of elements

pub ∈-row : {A B C : Type 0} (f : A → B → C) (a : A) {b : B} {bs : List B} → b ∈ bs → f a b ∈ row f bs a
unfolding row
∈-row f a n = ∈-each (λ b. f a b ∷ []) n (Memᴰ.head refl)

pub ∈-grid : {A B C : Type 0} (f : A → B → C) {a : A} {b : B} {as' : List A} {bs : List B} → a ∈ as' → b ∈ bs → f a b ∈ grid f as' bs
unfolding grid
∈-grid f {a} {bs = bs} m n = ∈-each (row f bs) m (∈-row f a n)

pub grid-∈ : {A B C : Type 0} (f : A → B → C) (as' : List A) (bs : List B) {c : C} → c ∈ grid f as' bs → (a : A) × (b : B) × (a ∈ as') ×
    (b ∈ bs) × (c ≡ f a b)
unfolding grid row
grid-∈ f as' bs m =
    let (a, n, t) = each-∈ (row f bs) as' m in
    let (b, k, u) = each-∈ (λ b. f a b ∷ []) bs t in
    (a, b, n, k, Memᴰ.eq_of_singleton u)

length-row : {A B C : Type 0} (f : A → B → C) (bs : List B) (a : A) → length (row f bs a) ≡ length bs
unfolding row flat_map
length-row f [] a = refl
length-row f (b ∷ bs) a = ap suc (length-row f bs a)

pub length-grid : {A B C : Type 0} (f : A → B → C) (as' : List A) (bs : List B) → length (grid f as' bs) ≡ length as' * length bs
unfolding grid flat_map
length-grid f [] bs = omega arith
length-grid f (a ∷ as') bs =
    omega (arith, length-append (row f bs a) (grid f as' bs), length-row f bs a, length-grid f as' bs, suc-mul (length as') (length bs))

-- ---- pairs as numbers

pub pair_left : {p t : ℕ} (s : ℕ) → t < p → pair p s t / p ≡ s
pair_left s h = digits_div s h

pub pair_right : {p t : ℕ} (s : ℕ) → t < p → pair p s t % p ≡ t
pair_right s h = digits_mod s h

-- ---- ascending lists

-- two ascending lists with the same members are one
pub asc_ext : (l m : List ℕ) → Ascending l → Ascending m → ((x : ℕ) → x ∈ l → x ∈ m) → ((x : ℕ) → x ∈ m → x ∈ l) → l ≡ m
asc_ext [] [] a b f g = refl
asc_ext [] (y ∷ m) a b f g = absurd (Memᴰ.not-nil (g y (Memᴰ.head refl)))
asc_ext (x ∷ l) [] a b f g = absurd (Memᴰ.not-nil (f x (Memᴰ.head refl)))
asc_ext (x ∷ l) (y ∷ m) (a, al) (b, bm) f g =
    ap₂ {C = List ℕ} (λ u v. u ∷ v) e
    (asc_ext l m al bm (λ z n. there l m x y e a z n (f z (Memᴰ.tail n)))
    (λ z n. there m l y x (sym e) b z n (g z (Memᴰ.tail n))))
  where
    heads : (x ≡ y) ⊎ (x ∈ m) → (y ≡ x) ⊎ (y ∈ l) → x ≡ y
    heads (inl e) k = e
    heads (inr n) (inl e) = sym e
    heads (inr n) (inr k) = absurd (let p = b x n in let q = a y k in omega arith)

    e : x ≡ y
    e = heads (Memᴰ.cases_cons (f x (Memᴰ.head refl))) (Memᴰ.cases_cons (g y (Memᴰ.head refl)))

    there : (l m : List ℕ) (x y : ℕ) → x ≡ y → ((z : ℕ) → z ∈ l → x < z) → (z : ℕ) → z ∈ l → z ∈ y ∷ m → z ∈ m
    there l m x y e a z n k = go (Memᴰ.cases_cons k)
      where
        go : (z ≡ y) ⊎ (z ∈ m) → z ∈ m
        go (inl i) = absurd (let p = a z n in omega arith)
        go (inr i) = i

pub asc_append : (l m : List ℕ) → Ascending l → Ascending m → ((x y : ℕ) → x ∈ l → y ∈ m → x < y) → Ascending (l ++ m)
asc_append [] m a b f = b
asc_append (x ∷ l) m (a, al) b f = (λ y n. go y (Memᴰ.append_cases l n), asc_append l m al b (λ u v i j. f u v (Memᴰ.tail i) j))
  where
    go : (y : ℕ) → (y ∈ l) ⊎ (y ∈ m) → x < y
    go y (inl n) = a y n
    go y (inr n) = f x y (Memᴰ.head refl) n

pub asc_each : (f : ℕ → List ℕ) (l : List ℕ) → Ascending l → ((i : ℕ) → Ascending (f i)) →
    ((i j x y : ℕ) → i ∈ l → j ∈ l → i < j → x ∈ f i → y ∈ f j → x < y) → Ascending (flat_map f l)
unfolding flat_map
asc_each f [] a b h = tt
asc_each f (i ∷ l) (a, al) b h =
    asc_append (f i) (flat_map f l) (b i) (asc_each f l al b (λ p q x y m n. h p q x y (Memᴰ.tail m) (Memᴰ.tail n)))
    (λ x y m n. let (j, k, t) = each-∈ f l n in h i j x y (Memᴰ.head refl) (Memᴰ.tail k) (a j k) m t)

pub asc_only : (b : Bool) (i : ℕ) → Ascending (only b i)
unfolding only
asc_only true i = (λ y m. absurd (Memᴰ.not-nil m), tt)
asc_only false i = tt

pub asc_from : (n q : ℕ) → Ascending (from n q)
unfolding from
asc_from zero q = tt
asc_from (suc n) q = (λ y m. let (a, b) = from-∈ n (suc q) m in omega arith, asc_from n (suc q))

-- those of the numbers below k that pass a test are a set below k
pub asc_filter : (f : ℕ → Bool) (k : ℕ) → SetBelow k (flat_map (λ i. only (f i) i) (numbers k))
asc_filter f k = record {
  ascends = asc_each (λ i. only (f i) i) (numbers k) (asc_from k 0) (λ i. asc_only (f i) i)
      (λ i j x y _ _ h m l. let e = only_eq (f i) i m in let g = only_eq (f j) j l in omega arith);
  below = λ q m. let (i, t, u) = each-∈ (λ i. only (f i) i) (numbers k) m in let e = only_eq
      (f i) i u in let h = numbers-< k t in omega arith;
}

-- pairs of two ascending lists ascend
asc_row : (p s : ℕ) (l : List ℕ) → Ascending l → Ascending (row (pair p) l s)
unfolding row flat_map
asc_row p s [] a = tt
asc_row p s (t ∷ l) (a, al) = (
  λ y m. let (u, k, n) = each-∈
      (λ b. pair p s b ∷ []) l m in let h = a u k in let e = Memᴰ.eq_of_singleton n in omega arith,
  asc_row p s l al,
)

pub asc_grid : (p : ℕ) (l m : List ℕ) → Ascending l → Ascending m → ((t : ℕ) → t ∈ m → t < p) → Ascending (grid (pair p) l m)
unfolding grid row
asc_grid p l m a b h = asc_each (row (pair p) m) l a (λ s. asc_row p s m b) (λ i j x y _ _ k n q.
    let (t, nt, et) = each-∈ (λ b. pair p i b ∷ []) m n in
    let (u, nu, eu) = each-∈ (λ b. pair p j b ∷ []) m q in
    let ht = h t nt in
    let ex = Memᴰ.eq_of_singleton et in
    let ey = Memᴰ.eq_of_singleton eu in
    let step : suc i * p ≤ j * p = mul-le-mul_right p k in
    omega arith)
