-- The index is made from the last rule to the first: each is put before the rules with its key that are there already.
use mathlib.Core.Path.{◌≡◌, refl, sym, ap, ◌∙◌}
use mathlib.Core.List.{List, [], ◌∷◌, ◌++◌, map, flat_map, append_assoc}
use Prim.Native.Nat.{ℕ, suc, ◌+◌, ◌*◌, ◌^◌, ◌≤◌, ◌<◌}
use native.Mathlib.Nat.{zero-add}
use native.Mathlib.Omega.{arith}
use lib.Dec.{eqb}
use lib.ListN.{length, get_or, take, drop, set, replicate, length-set, length-append, length-drop, length-map, drop_of_length-le}
use lib.ListN.{get_or-append}
use lib.Seq.{take-length, take-suc, drop-cons, drop-drop, split_at, append_snoc, set_at, set-append_left, length-take-le, ext_get_or}
use lib.Seq.{get_or-set_same, get_or-set_other}
use Rattle.model.proofs.Tests.{Told, yea, nay, told, same, eqb_no}
use Rattle.model.specs.Lists.{from, numbers}
use Rattle.model.specs.Answers.{passes, buffer_after}
use Rattle.model.specs.Sheet.{Rule, one}
use Rattle.model.specs.Index.{sheet_in, rules_in, Passes, nth, begin, key, first_with, index_heads, entries, index_words}
use Rattle.model.proofs.ListLaws.{length_from}
use Rattle.model.proofs.PassedLaws.{in_range, rules-word, rules-there}
use Rattle.model.proofs.IndexLaws.{entries-long, first-is, numbers-nth, rule-stands, rule-next, begins_low}
use Rattle.parts.proofs.LengthLaws.{key_of_rule, key-few}
use Rattle.sheet_chains.specs.Entries.{key_at, with_entry, EntryFits}

-- ---- heads

-- for each key the first of the rules from number j on
abbrev heads : List Rule → ℕ → List ℕ
heads R j = map (λ k. first_with k j (drop j R)) (numbers 67)

length-heads : (R : List Rule) (j : ℕ) → length (heads R j) ≡ 67
length-heads R j = length-map (numbers 67) (λ k. first_with k j (drop j R)) ∙ length_from 67 0

head_nth : (R : List Rule) (j k : ℕ) → k < 67 → get_or (heads R j) k 0 ≡ first_with k j (drop j R)
head_nth R j k l = rw (zero-add k) at (numbers-nth (λ k. first_with k j (drop j R)) 0 67 0 k l)

-- rule j becomes the first of its key
heads-next : (R : List Rule) (j : ℕ) → j < length R → key (nth R j) < 67 → set (heads R (suc j)) (key (nth R j)) j ≡ heads R j
unfolding first_with
heads-next R j l few =
    let long = length-set (heads R (suc j)) (key (nth R j)) j ∙ length-heads R (suc j) in
    ext_get_or 0 (set (heads R (suc j)) (key (nth R j)) j) (heads R j) (long ∙ sym (length-heads R j))
    (λ k m. let i : k < 67 = omega (arith, long) in
    sym (head_nth R j k i ∙ rw (drop-cons R j (one 0 0) l) (go k i (told (eqb (key (nth R j)) k)))))
  where
    go : (k : ℕ) → k < 67 → Told (eqb (key (nth R j)) k)
        → first_with k j (nth R j ∷ drop (suc j) R) ≡ get_or (set (heads R (suc j)) (key (nth R j)) j) k 0
    go k m (yea t) =
        let e : key (nth R j) ≡ k = same (key (nth R j)) k t in
        rw (t, ← e, get_or-set_same (heads R (suc j)) (key (nth R j)) j 0 (omega (arith, length-heads R (suc j))))
    go k m (nay t) =
        rw (t, get_or-set_other (heads R (suc j)) (key (nth R j)) k j 0 (λ e. eqb_no {m = key (nth R j)} {n = k} t (sym e)))
        (sym (head_nth R (suc j) k m))

-- ---- the rules from number j on

pub entry_put : (s index : List ℕ) (at j : ℕ) {key : ℕ} → key ≡ key_at s at → set
    (set index (67 + j) (at + get_or index key 0 * 2 ^ 16)) key j ≡ with_entry s index j at
unfolding with_entry
entry_put s index at j e = rw e

-- a word after two lists
set_after : (h t : List ℕ) (x w : ℕ) (r : List ℕ) (n : ℕ) → length h + length t ≡ n → set (h ++ (t ++ x ∷ r)) n w ≡ h ++ (t ++ w ∷ r)
set_after h t x w r n e =
    ap (λ (l : List ℕ). set l n w) (sym (append_assoc h t (x ∷ r))) ∙ set_at (h ++ t) x r w n (length-append h t ∙ e)
    ∙ append_assoc h t (w ∷ r)

-- the entries of a sheet's rules from number j on
abbrev entries_in : List ℕ → ℕ → List ℕ
entries_in s j = entries (sheet_in s).states (begin (sheet_in s).states 6 (rules_in s) j) j (drop j (rules_in s))

-- what is after a sheet's index
abbrev rest : List ℕ → List ℕ → List ℕ
rest s old = drop (68 + length (rules_in s)) old

-- heads and entries are in the index, and all else is as it was
pub record Chaining (s old index : List ℕ) (j : ℕ) : Type 0 where
  pub long : length index ≡ length old
  pub few : j ≤ length (rules_in s)
  pub words : index ≡ heads (rules_in s) j ++ (take j (drop 67 old) ++ (entries_in s j ++ rest s old))

module _ {s : List ℕ} (ok : Passes s) where
  -- with no rule there is only the end
  pub chaining_none : {old cleared : List ℕ} {n : ℕ} → cleared ≡ replicate (length (take 67 old)) n → n ≡ get_or s 5 0
      → length old ≡ 1092 → Chaining s old (set (cleared ++ drop 67 old) (67 + n) (length s)) n
  unfolding first_with entries from
  chaining_none {old} {cleared} {n} h e room =
      let number : n ≡ length (rules_in s) = e ∙ rules-word ok in
      let tail = drop 67 old in
      let heads_is : cleared ≡ replicate 67 n = rw (length-take-le 67 old (omega arith)) at h in
      let inside : n < length tail = omega (arith, length-drop 67 old, in_range ok) in
      let none : drop n (rules_in s) ≡ [] = drop_of_length-le (rules_in s) {i = n} (omega arith) in
      let end : length s ≡ begin (sheet_in s).states 6 (rules_in s) n
      = (rules-there ok).ends ∙ rw (number, take-length (rules_in s)) in
      let after_n : 67 + suc n ≡ 68 + length (rules_in s) = omega arith in
      record {
        long = rw heads_is (simp length-set (omega (arith, length-append (replicate 67 n) tail, length-drop 67 old)));
        few = omega arith;
        words = rw heads_is (ap (λ (l : List ℕ). set (replicate 67 n ++ l) (67 + n) (length s)) (split_at tail n 0 inside)
            ∙ set_after (replicate 67 n) (take n tail) (get_or tail n 0) (length s) (drop (suc n) tail) (67 + n)
            (omega (arith, length-take-le n tail (omega arith)))
            ∙ rw (none, ← end, drop-drop (suc n) 67 old, after_n));
      }

  module _ {old index : List ℕ} {i j : ℕ} (h : Chaining s old index i) (next : i ≡ suc j) (room : length old ≡ 1092) where
    number : j < length (rules_in s)
    number = omega (arith, h.few)

    head : (k : ℕ) → k < 67 → get_or index k 0 ≡ first_with k i (drop i (rules_in s))
    head k l =
        rw h.words (get_or-append (heads (rules_in s) i) _ 0 k (omega (arith, length-heads (rules_in s) i))
        ∙ head_nth (rules_in s) i k l)

    pub entry_fits : {at : ℕ} → at ≡ begin (sheet_in s).states 6 (rules_in s) j → EntryFits index j at
    entry_fits e = record {
      room = h.long ∙ room;
      rule = omega (arith, number, in_range ok);
      place = omega (arith, begins_low ok j (omega (arith, number)));
      heads = λ k l. omega (arith, head k l, first-is (rules_in s) k i (drop i (rules_in s)) h.few refl, in_range ok);
    }

    pub chaining_more : {at : ℕ} → at ≡ begin (sheet_in s).states 6 (rules_in s) j → Chaining s old (with_entry s index j at) j
    unfolding with_entry entries
    chaining_more {at} e =
        let R = rules_in s in
        let r = nth R j in
        let t = take j (drop 67 old) in
        let later = entries_in s (suc j) ++ rest s old in
        let x = get_or (drop 67 old) j 0 in
        let w : ℕ = begin (sheet_in s).states 6 R j + first_with (key r) (suc j) (drop (suc j) R) * 2 ^ 16 in
        let k_is : key_at s at ≡ key r = key_of_rule {p = (sheet_in s).states} {a = at} {s = s} r (rw e (rule-stands ok j number)) in
        let few : key r < 67 = rw k_is at (key-few (get_or s at 0) (get_or s (at + 1) 0)) in
        let inside : j < length (drop 67 old) = omega (arith, length-drop 67 old, in_range ok, number) in
        let start : index ≡ heads R (suc j) ++ (t ++ x ∷ later)
        = rw next at h.words ∙ ap (λ (l : List ℕ). heads R (suc j) ++ l)
        (ap (λ (l : List ℕ). l ++ later) (take-suc (drop 67 old) j 0 inside) ∙ append_snoc t x later) in
        let here : w ∷ entries_in s (suc j) ≡ entries_in s j
        = rw (drop-cons R j (one 0 0) number)
        (ap (λ (n : ℕ). w ∷ entries (sheet_in s).states n (suc j) (drop (suc j) R)) (rule-next ok j number)) in
        record {
          long = simp length-set h.long;
          few = omega (arith, number);
          words = rw (k_is, rw next at (head (key r) few), e)
              (ap (λ (l : List ℕ). set (set l (67 + j) w) (key r) j) start
              ∙ ap (λ (l : List ℕ). set l (key r) j) (set_after (heads R (suc j)) t x w later (67 + j)
              (omega (arith, length-heads R (suc j), length-take-le j (drop 67 old) (omega arith))))
              ∙ set-append_left (heads R (suc j)) (t ++ w ∷ later) (key r) j (omega (arith, length-heads R (suc j)))
              ∙ ap (λ (l : List ℕ). l ++ (t ++ w ∷ later)) (heads-next R j number few)
              ∙ ap (λ (l : List ℕ). heads R j ++ (t ++ (l ++ rest s old))) here);
        }

  -- all rules are in the index, which is at the front
  pub chaining_all : {old index : List ℕ} {j : ℕ} → Chaining s old index j → j ≤ 0
      → index ≡ buffer_after old (passes (index_words (sheet_in s)))
  unfolding buffer_after index_words index_heads flat_map
  chaining_all {old} {index} {j} h l =
      let R = rules_in s in
      let table = entries (sheet_in s).states 6 0 R in
      let none : j ≡ 0 = omega arith in
      let long : length (heads R 0 ++ table) ≡ 68 + length R
      = omega (arith, length-append (heads R 0) table, length-heads R 0, entries-long (sheet_in s).states 6 0 R) in
      (rw none at h.words) ∙ sym (append_assoc (heads R 0) table (rest s old)) ∙ rw long
