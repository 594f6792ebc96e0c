-- The index of a sheet: each entry tells where its rule begins and where its target stands, and the rules with a key are chained.
use mathlib.Core.Path.{◌≡◌, refl, sym, ap, ◌∙◌}
use mathlib.Core.Logic.{◌≢◌}
use mathlib.Core.Bool.{cond}
use mathlib.Core.List.{List, [], ◌∷◌, ◌++◌, map, flat_map}
use Prim.Native.Nat.{ℕ, zero, suc, ◌+◌, ◌*◌, ◌/◌, ◌%◌, ◌^◌, ◌≤◌, ◌<◌}
use native.Mathlib.Omega.{arith}
use lib.Dec.{eqb}
use native.Mathlib.Nat.{zero-add}
use native.Mathlib.Numerals.{add-one}
use lib.ListN.{length, get_or, take, drop, length-append, length-map, length-drop}
use lib.Seq.{drop-cons, take-length}
use Rattle.model.specs.Lists.{from, numbers}
use Rattle.model.specs.Sheet.{Rule, one, rule_words}
use Rattle.model.specs.Spans.{WordsAt, RuleAt}
use Rattle.model.specs.Index.{sheet_in, rules_in, Passes, nth, begin, key, first_with, entries, index_heads, index_words, Indexed}
use Rattle.model.proofs.Tests.{Told, yea, nay, told, same, eqb_no}
use Rattle.model.proofs.ListLaws.{length_from}
use Rattle.model.proofs.Chains.{First, past, rules-next}
use Rattle.model.proofs.Spans.{span_left, span_right}
use Rattle.model.proofs.PartLaws.{words-within, word-is, part_nth}
use Rattle.model.proofs.RuleWords.{rule-there}
use Rattle.model.proofs.PassedLaws.{few_words, rules_stand}

-- ---- entries

pub begin-next : (p at : ℕ) (R : List Rule) (k : ℕ) → k < length R → begin p at R (suc k) ≡ begin p at R k + length (rule_words p (nth R k))
unfolding flat_map
begin-next p at [] k l = absurd (omega arith)
begin-next p at (r ∷ R) zero l = omega (arith, length-append (rule_words p r) [])
begin-next p at (r ∷ R) (suc k) l =
    omega (
      arith,
      begin-next p at R k (omega arith),
      length-append (rule_words p r) (flat_map (rule_words p) (take k R)),
      length-append (rule_words p r) (flat_map (rule_words p) (take (suc k) R)),
    )

pub entries-long : (p at j : ℕ) (R : List Rule) → length (entries p at j R) ≡ length R + 1
unfolding entries
entries-long p at j [] = refl
entries-long p at j (r ∷ R) = omega (arith, entries-long p (at + length (rule_words p r)) (suc j) R)

pub entry_is : (p at j : ℕ) (R : List Rule) (k : ℕ) → k < length R
    → get_or (entries p at j R) k 0 ≡ begin p at R k + first_with (key (nth R k)) (j + suc k) (drop (suc k) R) * 2 ^ 16
unfolding entries flat_map
entry_is p at j [] k l = absurd (omega arith)
entry_is p at j (r ∷ R) zero l =
    let e : j + 1 ≡ suc j = omega arith in
    rw e (omega arith)
entry_is p at j (r ∷ R) (suc k) l =
    let e : j + suc (suc k) ≡ suc j + suc k = omega arith in
    rw e (omega (
      arith,
      entry_is p (at + length (rule_words p r)) (suc j) R k (omega arith),
      length-append (rule_words p r) (flat_map (rule_words p) (take k R)),
    ))

pub entry_last : (p at j : ℕ) (R : List Rule) → get_or (entries p at j R) (length R) 0 ≡ at + length (flat_map (rule_words p) R)
unfolding entries flat_map
entry_last p at j [] = omega arith
entry_last p at j (r ∷ R) = omega (
  arith,
  entry_last p (at + length (rule_words p r)) (suc j) R,
  length-append (rule_words p r) (flat_map (rule_words p) R),
)

-- ---- the first rule with a key

pub first-is : (xs : List Rule) (k a : ℕ) (R : List Rule) → a ≤ length xs → drop a xs ≡ R → First key xs k a (first_with k a R)
unfolding first_with
first-is xs k a [] l e =
    let none : length xs ≤ a = omega (arith, ap length e, length-drop a xs) in
    record { later = omega arith; few = l; there = λ m. absurd (omega arith); least = λ j m n. absurd (omega arith) }
first-is xs k a (r ∷ R) l e = go (told (eqb (key r) k)) (λ h z. first-is xs k (suc a) R h z)
  where
    some : a < length xs
    some = omega (arith, ap length e, length-drop a xs)

    split : nth xs a ∷ drop (suc a) xs ≡ r ∷ R
    split = sym (drop-cons xs a (one 0 0) some) ∙ e

    here : nth xs a ≡ r
    here = cc split

    later : (i : ℕ) → key r ≢ k → First key xs k (suc a) i → First key xs k a i
    later i other h = record {
      later = omega (arith, h.later);
      few = h.few;
      there = h.there;
      least = λ j m n z. by j m n z
          (told (eqb j a));
    }
      where
        by : (j : ℕ) → a ≤ j → j < i → key (nth xs j) ≡ k → Told (eqb j a) → ⊥
        by j m n z (yea t) = other (sym (ap key here) ∙ ap (λ (i : ℕ). key (nth xs i)) (sym (same j a t)) ∙ z)
        by j m n z (nay t) = h.least j (omega (arith, eqb_no {m = j} {n = a} t)) n z

    go : Told (eqb (key r) k) → (suc a ≤ length xs → drop (suc a) xs ≡ R → First key xs k (suc a) (first_with k (suc a) R))
        → First key xs k a (cond (eqb (key r) k) a (first_with k (suc a) R))
    go (yea t) rest = rw t (record {
      later = omega arith;
      few = l;
      there = λ m. ap key here ∙ same
          (key r) k t;
      least = λ j m n. absurd (omega arith);
    })
    go (nay t) rest = rw t (later (first_with k (suc a) R) (eqb_no t) (rest some (cc split)))

pub numbers-nth : {A : Type 0} (f : ℕ → A) (d : A) (n q k : ℕ) → k < n → get_or (map f (from n q)) k d ≡ f (q + k)
unfolding from
numbers-nth f d zero q k l = absurd (omega arith)
numbers-nth f d (suc n) q zero l = let e : q + 0 ≡ q = omega arith in rw e
numbers-nth f d (suc n) q (suc k) l = let e : q + suc k ≡ suc q + k = omega arith in rw e (numbers-nth f d n (suc q) k (omega arith))

-- ---- a sheet with its index

-- where rule k begins
abbrev at-rule : List ℕ → ℕ → ℕ
at-rule s k = begin (sheet_in s).states 6 (rules_in s) k

-- a place and a rule's number in one word
pub halves : (a n : ℕ) → a < 2 ^ 16 → ((a + n * 2 ^ 16) % 2 ^ 16 ≡ a) × ((a + n * 2 ^ 16) / 2 ^ 16 ≡ n)
halves a n l = (omega arith, omega arith)

module _ {s : List ℕ} (ok : Passes s) where
  pub rule-stands : (k : ℕ) → k < length (rules_in s) → RuleAt (sheet_in s).states s (at-rule s k) (nth (rules_in s) k)
  rule-stands k l = part_nth (rule_words (sheet_in s).states) (rules_in s) (one 0 0) k (rules_stand ok) l

  pub rule-next : (k : ℕ) → k < length (rules_in s) → at-rule s (suc k) ≡ at-rule s k + length
      (rule_words (sheet_in s).states (nth (rules_in s) k))
  rule-next k l = begin-next (sheet_in s).states 6 (rules_in s) k l

  pub begins-within : (k : ℕ) → k ≤ length (rules_in s) → at-rule s k ≤ length s
  unfolding flat_map
  begins-within zero l = omega (arith, (few_words ok).0)
  begins-within (suc k) l = omega (arith, rule-next k (omega arith), (rule-there (rule-stands k (omega arith))).1)

  pub begins_low : (k : ℕ) → k ≤ length (rules_in s) → at-rule s k < 2 ^ 16
  begins_low k l = omega (arith, begins-within k l, (few_words ok).1)

-- the parts of an index's words
pub heads-long : (R : List Rule) → length (index_heads R) ≡ 67
unfolding index_heads
heads-long R = length-map (numbers 67) (λ k. first_with k 0 R) ∙ length_from 67 0

pub head_is : (R : List Rule) (k : ℕ) → k < 67 → get_or (index_heads R) k 0 ≡ first_with k 0 R
unfolding index_heads
head_is R k l = rw (zero-add k) at (numbers-nth (λ k. first_with k 0 R) 0 67 0 k l)

module _ {s index : List ℕ} (h : Indexed s index) where
  heads-there : WordsAt index 0 67 (index_heads (rules_in s))
  unfolding index_words
  heads-there =
      let R = rules_in s in
      rw (zero-add (length (index_heads R)), heads-long R) at (span_left (index_heads R) (entries (sheet_in s).states 6 0 R) h.there)

  entries-there : WordsAt index 67 (length (index_words (sheet_in s))) (entries (sheet_in s).states 6 0 (rules_in s))
  unfolding index_words
  entries-there =
      let R = rules_in s in
      rw (zero-add (length (index_heads R)), heads-long R) at (span_right (index_heads R) (entries (sheet_in s).states 6 0 R) h.there)

  long : length (entries (sheet_in s).states 6 0 (rules_in s)) ≡ length (rules_in s) + 1
  long = entries-long (sheet_in s).states 6 0 (rules_in s)

  pub index-room : 67 + length (rules_in s) < length index
  index-room = omega (arith, long, words-within entries-there (omega (arith, long)), entries-there.ends)

  entry : (k : ℕ) → k < length (rules_in s)
      → get_or index (67 + k) 0 ≡ at-rule s k + first_with (key (nth (rules_in s) k)) (suc k) (drop (suc k) (rules_in s)) * 2 ^ 16
  entry k l = rw (zero-add (suc k)) at (word-is entries-there k (omega (arith, long)) ∙ entry_is (sheet_in s).states 6 0 (rules_in s) k l)

  last : get_or index (67 + length (rules_in s)) 0 ≡ at-rule s (length (rules_in s))
  last =
      word-is entries-there (length (rules_in s)) (omega (arith, long))
      ∙ entry_last (sheet_in s).states 6 0 (rules_in s)
      ∙ ap (λ (R : List Rule). 6 + length (flat_map (rule_words (sheet_in s).states) R)) (sym (take-length (rules_in s)))

  -- an entry's lower half tells where its rule begins
  begins : (k : ℕ) → k ≤ length (rules_in s) → get_or index (67 + k) 0 % 2 ^ 16 ≡ at-rule s k
  begins k l = go (told (eqb k (length (rules_in s))))
    where
      go : Told (eqb k (length (rules_in s))) → get_or index (67 + k) 0 % 2 ^ 16 ≡ at-rule s k
      go (yea t) = rw (same k (length (rules_in s)) t, last) (omega (arith, begins_low h.sheet (length (rules_in s)) (omega arith)))
      go (nay t) = rw (entry k (omega (arith, eqb_no {m = k} {n = length (rules_in s)} t))) (halves _ _ (begins_low h.sheet k l)).0

  module _ {k w : ℕ} (l : k < length (rules_in s)) (e : w ≡ get_or index (67 + k) 0) where
    pub rule-here : RuleAt (sheet_in s).states s (w % 2 ^ 16) (nth (rules_in s) k)
    rule-here = rw (e, begins k (omega arith)) (rule-stands h.sheet k l)

    -- and the next entry's where it ends, after its target
    pub rule-ends : {v : ℕ} → v ≡ get_or index (67 + (k + 1)) 0 → v % 2 ^ 16 ≡ w % 2 ^ 16 + length
        (rule_words (sheet_in s).states (nth (rules_in s) k))
    rule-ends f = rw (f, e, add-one k, begins (suc k) (omega arith), begins k (omega arith)) (rule-next h.sheet k l)

  -- ---- along a chain: what is given by rules, where a rule with another key than k gives nothing

  head_first : (k : ℕ) → k < 67 → First key (rules_in s) k 0 (get_or index k 0)
  head_first k l =
      let R = rules_in s in
      let e : get_or index k 0 ≡ first_with k 0 R = rw (zero-add k)
      at (word-is heads-there k (omega (arith, heads-long R)) ∙ head_is R k l) in
      rw e (first-is R k 0 R (omega arith) refl)

  next-first : (j : ℕ) → j < length (rules_in s) → First key (rules_in s) (key (nth (rules_in s) j)) (suc j)
      (get_or index (67 + j) 0 / 2 ^ 16)
  next-first j l =
      let R = rules_in s in
      rw (entry j l, (halves _ _ (begins_low h.sheet j (omega arith))).1) (first-is R (key (nth R j)) (suc j) (drop (suc j) R) l refl)

  pub chain_few : {j i : ℕ} → j < length (rules_in s) → i ≡ get_or index (67 + j) 0 / 2 ^ 16 → (j < i) × (i ≤ length (rules_in s))
  chain_few {j} l e = (omega (arith, (next-first j l).later), omega (arith, (next-first j l).few))

  module _ {B : Type 0} (f : Rule → List B) {k : ℕ} (apart : (x : Rule) → key x ≢ k → f x ≡ []) where
    pub chain_first : {i : ℕ} → k < 67 → i ≡ get_or index k 0
        → (flat_map f (rules_in s) ≡ flat_map f (drop i (rules_in s))) × (i < length (rules_in s) → key (nth (rules_in s) i) ≡ k)
    chain_first {i} l e = let first : First key (rules_in s) k 0 i = rw e (head_first k l) in (past f apart first, first.there)

    pub chain_next : {j i : ℕ} → j < length (rules_in s) → key (nth (rules_in s) j) ≡ k → i ≡ get_or index (67 + j) 0 / 2 ^ 16
        → (flat_map f (drop j (rules_in s)) ≡ f (nth (rules_in s) j) ++ flat_map f (drop i (rules_in s))) ×
        (i < length (rules_in s) → key (nth (rules_in s) i) ≡ k)
    chain_next {j} {i} l z e =
        let first : First key (rules_in s) k (suc j) i = rw (e, ← z) (next-first j l) in
        (rules-next (rules_in s) refl l f ∙ rw (add-one j) (ap (λ zs. f (nth (rules_in s) j) ++ zs) (past f apart first)), first.there)
