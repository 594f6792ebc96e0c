-- Bytes over at a file's end: a last word that is in no range is read as if it were missing, and no reader goes past the end.
-- So the place of a sheet's refusal is at most the most words of a sheet.
use mathlib.Core.Path.{◌≡◌, refl}
use mathlib.Core.Logic.{⊎_elim}
use mathlib.Core.Bool.{Bool, true, false, cond, ◌&&◌, and-false}
use mathlib.Core.List.Memᴰ
use mathlib.Core.List.{List, [], ◌∷◌, ◌++◌}
use Prim.Native.Nat.{ℕ, ◌+◌, ◌-◌, ◌≤◌, ◌<◌, min}
use native.Mathlib.Nat.{eq-or-lt_of_le}
use native.Mathlib.Omega.{arith}
use lib.Dec.{eqb, ltb}
use lib.ListN.{length, get_or, take, length-append, length-take, get_or-append}
use lib.Pow.{pow_mono}
use lib.Seq.{get_or-append_seam}
use borrow.Author.Tests as tests
use Rattle.model.specs.Lists.{◌∈◌, numbers}
use Rattle.model.specs.Answers.{passes, refuses}
use Rattle.model.specs.Sheet.{Sheet, W, Got, got, bad, Reader, give, then, ◌>>=◌, word, between, below, one_of, all, set_below, arc_ok, arc}
use Rattle.model.specs.Sheet.{order, coefficient, sum, at_most_step, remainder_step, one_earlier, two_earlier, step, steps, target}
use Rattle.model.specs.Sheet.{text_rule, tag_rule, order_rule, count_rule, order_count_rule, rule, sheet, ended, sheet_of}
use Rattle.model.proofs.Tests.{Yes, Told, yea, nay, told, between_inv}
use Rattle.model.proofs.ListLaws.{numbers-<}

-- the words and one more, in no range
abbrev pub over : List ℕ → List ℕ
over s = s ++ (W ∷ [])

-- two results that are the same and end, or stop, at an index of at most len
pub data Alike {A : Type 0} (len : ℕ) : Got A → Got A → Type 0 where
  both_got : (x : A) {n : ℕ} → n ≤ len → Alike len (got x n) (got x n)
  both_bad : {k : ℕ} → k ≤ len → Alike len (bad k) (bad k)

-- a last word in no range changes nothing, and the reader stays within the words
pub record Closed {A : Type 0} (r : Reader A) : Type 0 where
  pub alike : (s : List ℕ) (i : ℕ) → i ≤ length s → Alike (length s) (r (over s) i) (r s i)

-- ---- readers that are made of others

closed-give : {A : Type 0} (x : A) → Closed (give x)
closed-give x = record { alike = λ s i l. both_got x l }

closed-then : {A B : Type 0} {r : Reader A} {f : A → Reader B} → Closed r → ((x : A) → Closed (f x)) → Closed (r >>= f)
unfolding then
closed-then {A} {f = f} h k = record { alike = λ s i l. go s (h.alike s i l) }
  where
    go : (s : List ℕ) {g e : Got A} → Alike (length s) g e → Alike (length s) (then (over s) g f) (then s e f)
    go s (both_got x {n = n} l) = (k x).alike s n l
    go s (both_bad l) = both_bad l

-- where a test fails on the last word, it decides alike
module _ {A : Type 0} (ok : ℕ → Bool) (fails : ok W ≡ false) (s : List ℕ) (i : ℕ) (l : i ≤ length s) {u v x y : Got A} where
  by_test : (i < length s → get_or (over s) i 0 ≡ get_or s i 0 → Yes (ok (get_or s i 0)) → Alike (length s) u v) → Alike (length s) x y
      → Alike (length s) (cond (ltb i (length (over s)) && ok (get_or (over s) i 0)) u x) (cond (ltb i (length s) && ok (get_or s i 0)) v y)
  by_test h k = ⊎_elim
      (λ e. rw (tests.le-ltb i (length s) (omega arith), e, get_or-append_seam s W [] 0, fails, and-false) k)
      (λ m. let same = get_or-append s (W ∷ []) 0 i m in
      rw (tests.lt-ltb i (length (over s)) (simp length-append (omega arith)), tests.lt-ltb i (length s) m, same)
      (go (told (ok (get_or s i 0))) (h m same)))
      (eq-or-lt_of_le l)
    where
      go : {b : Bool} → Told b → (Yes b → Alike (length s) u v) → Alike (length s) (cond b u x) (cond b v y)
      go (yea e) h = rw e (h e)
      go (nay e) h = rw e k

then_cond : {A B : Type 0} (b : Bool) (s : List ℕ) (x : A) (n k : ℕ) (f : A → Reader B) → then s (cond b (got x n) (bad k)) f
    ≡ cond b (f x s n) (bad k)
unfolding then
then_cond true s x n k f = refl
then_cond false s x n k f = refl

-- what a word's test tells is known of what follows
closed-word : {A : Type 0} {ok : ℕ → Bool} {f : ℕ → Reader A} → ok W ≡ false → ((x : ℕ) → Yes (ok x) → Closed (f x))
    → Closed (word ok >>= f)
unfolding word
closed-word {ok = ok} {f = f} fails k = record {
  alike = λ s i l. rw (then_cond, then_cond)
      (by_test ok fails s i l (λ m e y. rw e ((k (get_or s i 0) y).alike s (i + 1) (omega arith))) (both_bad l));
}

closed_all : {A B : Type 0} {r : B → Reader A} (l : List B) → ((b : B) → b ∈ l → Closed (r b)) → Closed (all r l)
unfolding all
closed_all [] h = closed-give []
closed_all (b ∷ l) h =
    closed-then (h b (Memᴰ.head refl)) (λ x. closed-then (closed_all l (λ c m. h c (Memᴰ.tail m))) (λ xs. closed-give (x ∷ xs)))

closed_none : {A : Type 0} → Closed (one_of {A = A} [])
unfolding one_of
closed_none = record { alike = λ s i l. both_bad l }

closed-key : {A : Type 0} (k : ℕ) {r : Reader A} (cs : List (ℕ × Reader A)) → eqb W k ≡ false → Closed r → Closed (one_of cs)
    → Closed (one_of ((k, r) ∷ cs))
unfolding one_of
closed-key k cs fails hr hc = record {
  alike = λ s i l. by_test (λ x. eqb x k) fails s i l (λ m _ _. hr.alike s (i + 1) (omega arith)) (hc.alike s i l);
}

-- ---- the readers of a sheet

closed_set : (k : ℕ) → Yes (between 1 64 k) → Closed (set_below k)
unfolding set_below
closed_set k y =
    let h = between_inv 1 64 k y in
    closed-word (tests.le-ltb W _ (pow_mono {i = min k 32} {j = 32} (omega arith))) (λ low _.
    closed-word (tests.le-ltb W _ (pow_mono {i = k - 32} {j = 32} (omega arith))) (λ high _. closed-give _))

closed-order : (p : ℕ) → Closed (order p)
unfolding order arc arc_ok
closed-order p =
    let no_arc : (m : ℕ) → arc_ok p m W ≡ false = λ m. simp and-false in
    search (closed-word, closed-then, closed_set, closed_all, closed-give) depth 20

module _ (p : ℕ) (y : Yes (between 1 64 p)) where
  closed-sum : Closed (sum p)
  unfolding sum coefficient
  closed-sum = search (closed-word, closed-then, closed_set, closed_all, closed-give) depth 20

  closed-step : (i : ℕ) → i < 32 → Closed (step p i)
  unfolding step at_most_step remainder_step one_earlier two_earlier
  closed-step i l =
      let earlier : below i W ≡ false = tests.le-ltb W i (omega arith) in
      let modulus : (m : ℕ) → Yes (between 1 1000 m) → below m W ≡ false
      = λ m h. tests.le-ltb W m (omega (arith, between_inv 1 1000 m h)) in
      search (closed-key, closed_none, closed-word, closed-then, closed-sum, closed-give) depth 20

  closed-steps : Closed (steps p)
  unfolding steps
  closed-steps = closed-word refl
      (λ n z. closed_all (numbers n) (λ i m. closed-step i (omega (arith, numbers-< n m, (between_inv 1 32 n z).1))))

  closed-rule : (g : ℕ) → Yes (between 1 64 g) → Closed (rule p g)
  unfolding rule target text_rule tag_rule order_rule count_rule order_count_rule
  closed-rule g z =
      let tag : between 1 g W ≡ false = tests.lt-leb W g (omega (arith, between_inv 1 64 g z)) in
      let state : below p W ≡ false = tests.le-ltb W p (omega (arith, between_inv 1 64 p y)) in
      search (closed-key, closed_none, closed-word, closed-then, closed-order, closed-steps, closed-give) depth 20

pub closed-sheet : Closed sheet
unfolding sheet
closed-sheet = search (closed-word, closed-then, closed_set, closed_all, closed-rule, closed-give) depth 20

pub refused-place : (s : List ℕ) {n i : ℕ} → sheet_of s ≡ refuses n i → i ≤ 16384
unfolding sheet_of ended
refused-place s {n} {i} = go (closed-sheet.alike (take 16384 s) 0 (omega arith))
  where
    go : {g e : Got Sheet} → Alike (length (take 16384 s)) g e → ended (length s) e ≡ refuses n i → i ≤ 16384
    go (both_got t {n = m} l) e = omega (arith, by (eqb m (length s)) e, length-take 16384 s)
      where
        by : (b : Bool) → cond b (passes t) (refuses 9 m) ≡ refuses n i → m ≡ i
        by true e = cc
        by false e = cc
    go (both_bad {k = k} l) e = let d : k ≡ i = cc in omega (arith, length-take 16384 s)
