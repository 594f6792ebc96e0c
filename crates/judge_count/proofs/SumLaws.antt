-- Occurrences of states, counted word by word; and sums of coefficient × occurrences: what is left of one, and its next term.
use mathlib.Core.Path.{◌≡◌, refl, sym, ap, ◌∙◌}
use mathlib.Core.Bool.{Bool, true, false, cond}
use mathlib.Core.List.Memᴰ
use mathlib.Core.List.{List, [], ◌∷◌, ◌++◌, map}
use Prim.Native.Nat.{ℕ, zero, suc, ◌+◌, ◌-◌, ◌≤◌, ◌<◌, ◌*◌, ◌^◌}
use native.Mathlib.Omega.{arith}
use native.Mathlib.Nat.{zero-add, mul-le-mul_right}
use native.Mathlib.Numerals.{add-one}
use lib.Dec.{eqb, ltb}
use lib.ListN.{length, get_or, take, drop, set, replicate, length-set, length-drop, drop_of_length-le}
use lib.Seq.{drop-cons, drop-drop, take_all, get_or-set_same, get_or-set_other}
use lib.IntN.{ℤ, pos, negsuc, neg_ℤ, nat_abs, sub_ℕ, ◌+ℤ◌, ◌*ℤ◌, +ℤ_assoc, +ℤ_idl, +ℤ_idr}
use borrow.Author.Tests.{lt-ltb, le-ltb, ltb-true}
use mir.Syntax.{w32}
use mir.Val.{SFits}
use Rattle.model.specs.Lists.{◌∈◌, Ascending, SetBelow, has, only}
use Rattle.model.specs.Words.{occurrences, total}
use Rattle.model.specs.Sheet.{Coefficient, W, set_words, signed_word, marks, sum_words, small, signed_32, members, mask, signed}
use Rattle.model.proofs.Tests.{Told, yea, nay, told, same, eqb_yes, eqb_no, eqb-false, eqb_like, Yes, between_inv}
use Rattle.model.proofs.ListLaws.{asc_only}
use Rattle.model.proofs.SetWords.{members_set, mask-<, members-mask}
use Rattle.bits.specs.Stands.{Stands}
use Rattle.bits.proofs.SetLaws.{stands-members, words_stand}
use Rattle.judge_order.specs.Order.{StateWords, states_of}
use Rattle.judge_order.proofs.OrderLaws.{length-states}
use Rattle.judge_count.specs.Count.{Occurs, in_all, FewCounted, SumFirst, Summed}

-- ---- different states

-- how many children have one of several states
unfoldable pub among : List ℕ → List ℕ → ℕ
among l [] = 0
among l (x ∷ w) = occurrences x l + among l w

among_more : (q : ℕ) (l w : List ℕ) → among (q ∷ l) w ≡ occurrences q w + among l w
unfolding among occurrences
among_more q l [] = refl
among_more q l (x ∷ w) = omega (arith, ap {B = ℕ} (λ b. cond b 1 0) (eqb_like q x x q sym sym), among_more q l w)

among_none : (w : List ℕ) → among [] w ≡ 0
unfolding among occurrences
among_none [] = refl
among_none (x ∷ w) = omega (arith, among_none w)

occurrences_none : (x : ℕ) (l : List ℕ) → (x ∈ l → ⊥) → occurrences x l ≡ 0
unfolding occurrences
occurrences_none x [] n = refl
occurrences_none x (q ∷ l) n = rw (eqb-false {m = x} {n = q} (λ e. n (Memᴰ.head e)))
    (omega (arith, occurrences_none x l (λ m. n (Memᴰ.tail m))))

ascending_once : (x : ℕ) (l : List ℕ) → Ascending l → occurrences x l ≤ 1
unfolding occurrences
ascending_once x [] a = omega arith
ascending_once x (q ∷ l) (a, b) = go (told (eqb x q)) (ascending_once x l b)
  where
    go : Told (eqb x q) → occurrences x l ≤ 1 → cond (eqb x q) 1 0 + occurrences x l ≤ 1
    go (yea y) h = rw y (omega (arith, occurrences_none x l (λ m. let e = same x q y in let k = a x m in omega arith)))
    go (nay n) h = rw n (omega arith)

-- different states occur no more often than there are children
among_≤ : (l w : List ℕ) → Ascending l → among l w ≤ length w
unfolding among
among_≤ l [] a = omega arith
among_≤ l (x ∷ w) a = omega (arith, ascending_once x l a, among_≤ l w a)

-- how often states occur makes such counts
pub few_counted : {counts w : List ℕ} → Occurs counts w → FewCounted counts
few_counted {counts} {w} o = record { long = o.long; few = λ l a. omega (arith, same l, among_≤ l w a, o.few) }
  where
    same : (l : List ℕ) → in_all counts l ≡ among l w
    same [] = sym (among_none w)
    same (q ∷ l) = omega (arith, o.each q, same l, among_more q l w)

-- ---- counting occurrences

-- the counts, with the occurrences from word i on, make all
pub record CountsTo (words counts : List ℕ) (i : ℕ) : Type 0 where
  pub long : length counts ≡ 64
  pub each : (q : ℕ) → get_or counts q 0 + occurrences q (states_of (drop i words)) ≡ occurrences q (states_of words)

pub no_count : (words : List ℕ) → CountsTo words (replicate 64 0) 0
no_count words = record { long = refl; each = λ q. rw (none q 64) (zero-add (occurrences q (states_of words))) }
  where
    none : (q n : ℕ) → get_or {A = ℕ} (replicate n 0) q 0 ≡ 0
    none q zero = refl
    none zero (suc n) = refl
    none (suc q) (suc n) = none q n

module _ {words counts : List ℕ} {i : ℕ} (so_far : CountsTo words counts i) where
  module _ (more : i < length words) where
    abbrev here : ℕ
    here = get_or words i 0 - 1

    -- the state in hand, before the later ones
    with_here : (q : ℕ)
        → get_or counts q 0 + (cond (eqb q here) 1 0 + occurrences q (states_of (drop (i + 1) words))) ≡ occurrences q (states_of words)
    unfolding states_of occurrences
    with_here q = rw (add-one i) (rw (drop-cons words i 0 more) at (so_far.each q))

    pub count_small : length words ≤ 4096 → get_or counts here 0 ≤ 4096
    unfolding only
    count_small few =
        let w = states_of words in
        let most = among_≤ (here ∷ []) w (asc_only true here) in
        omega (arith, among_more here [] w, so_far.each here, length-states words)

    pub one_count : here < 64 → CountsTo words (set counts here (get_or counts here 0 + 1)) (i + 1)
    one_count l = record { long = length-set counts here _ ∙ so_far.long; each = λ q. go q (told (eqb q here)) }
      where
        go : (q : ℕ) → Told (eqb q here)
            → get_or (set counts here (get_or counts here 0 + 1)) q 0 + occurrences q (states_of (drop (i + 1) words))
            ≡ occurrences q (states_of words)
        go q (yea y) =
            let e : q ≡ here = same q here y in
            let put = get_or-set_same counts here (get_or counts here 0 + 1) 0 (omega (arith, so_far.long)) in
            rw e (omega (arith, put, rw (eqb_yes {m = here} refl) at (with_here here)))
        go q (nay n) = omega (arith, rw n at (with_here q), get_or-set_other counts here q (get_or counts here 0 + 1) 0 (eqb_no n))

  pub all-counted : StateWords words → length words ≤ i → Occurs counts (states_of words)
  unfolding states_of occurrences
  all-counted ok h =
      record {
        long = so_far.long;
        each = λ q. omega (arith, rw (drop_of_length-le words {i = i} h) at (so_far.each q));
        few = omega (arith, length-states words, ok.few);
      }

-- ---- sizes of signed numbers

abs_neg : (n : ℕ) → nat_abs (neg_ℤ (pos n)) ≡ n
abs_neg zero = refl
abs_neg (suc n) = refl

abs_times : (z : ℤ) (n : ℕ) → nat_abs (z *ℤ pos n) ≡ nat_abs z * n
abs_times (pos m) n = refl
abs_times (negsuc m) n = abs_neg (suc m * n)

abs_minus : (a b : ℕ) → nat_abs (sub_ℕ a (suc b)) ≤ a + suc b
abs_minus a b = go (ltb a (suc b))
  where
    go : (t : Bool) → nat_abs (cond t (negsuc (suc b - suc a)) (pos (a - suc b))) ≤ a + suc b
    go true = omega arith
    go false = omega arith

abs_plus : (a b : ℤ) → nat_abs (a +ℤ b) ≤ nat_abs a + nat_abs b
abs_plus (pos a) (pos b) = omega arith
abs_plus (pos a) (negsuc b) = abs_minus a b
abs_plus (negsuc a) (pos b) = omega (arith, abs_minus b a)
abs_plus (negsuc a) (negsuc b) = omega arith

small-fits : {z : ℤ} → nat_abs z < 2 ^ 31 → SFits w32 z
small-fits {z = pos n} h = record { sfits = h }
small-fits {z = negsuc n} h = record { sfits = omega arith }

-- times × count, and total more, are signed numbers of 32 bits
pub sum_fits : {total times : ℤ} {count : ℕ} → SFits w32 total → SFits w32 times
    → (nat_abs total + nat_abs times * count < 2 ^ 31) × (count < 2 ^ 31)
    → SFits w32 (times *ℤ pos count) × SFits w32 (total +ℤ (times *ℤ pos count))
sum_fits {total} {times} {count} ft fc (h, hn) =
    let size = abs_times times count in
    (small-fits (omega arith), small-fits (omega (arith, abs_plus total (times *ℤ pos count))))

-- ---- coefficients

-- a signed number is what its word stands for
pub signed_back : (z : ℤ) → Yes (signed_32 z) → signed (signed_word z) ≡ z
unfolding signed_32 signed signed_word
signed_back (pos n) y = rw y
signed_back (negsuc n) y =
    let l = ltb-true n (2 ^ 31) y in
    let e : W - 1 - (W - 1 - n) ≡ n = omega arith in
    rw (le-ltb (W - 1 - n) (2 ^ 31) (omega arith), e)

small-known : (z : ℤ) → Yes (small z) → Yes (signed_32 z) × (nat_abs z ≤ 32768)
unfolding small signed_32
small-known (pos n) y = let (_, l) = between_inv 1 32767 n y in (lt-ltb n (2 ^ 31) (omega arith), omega arith)
small-known (negsuc n) y = let l = ltb-true n 32768 y in (lt-ltb n (2 ^ 31) (omega arith), omega arith)

-- ---- what is left of a sum

-- what is left of words after k of them are read
pub slice-rest : (k : ℕ) (l : List ℕ) → take (length l - k) (drop k l) ≡ drop k l
slice-rest k l = take_all (length l - k) (drop k l) (omega (arith, length-drop k l))

-- The coefficients cs of the states in l stand first in the words `rest`, and their terms with `sum` make the whole sum.
record Terms (words counts : List ℕ) (h : SumFirst words) (l rest : List ℕ) (sum : ℤ) (cs : List Coefficient) : Type 0 where
  marked : l ≡ marks cs
  stand : rest ≡ map (λ c. signed_word c.times) cs ++ h.rest
  smalls : (c : Coefficient) → c ∈ cs → Yes (small c.times)
  adds : (w : List ℕ) → Occurs counts w → sum +ℤ total cs w ≡ total h.coefficients w
  bounded : nat_abs sum + 32768 * in_all counts (marks cs) ≤ 32768 * 4096

-- The terms of the states in l are left, which are the members of a set of 64 bits; the words that are left begin with their coefficients.
pub record SumLeft (words counts l rest : List ℕ) (sum : ℤ) : Type 0 where
  pub fits : (set : ℕ) × (set < 2 ^ 64) × (members 64 set ≡ l)
  pub last : (k : ℕ) × (rest ≡ drop k words)
  pub whole : SumFirst words
  pub few : FewCounted counts
  terms : (h : SumFirst words) → (cs : List Coefficient) × Terms words counts h l rest sum cs

-- the two words of marks
module _ {words : List ℕ} (h : SumFirst words) where
  pub marks-there : 2 ≤ length words
  unfolding sum_words set_words
  marks-there = omega (arith, ap length h.coded)

  module _ {r : ℕ} (e : r ≡ get_or words 0 0 + get_or words 1 0 * W) where
    marks_stand : Stands r (marks h.coefficients)
    unfolding sum_words set_words
    marks_stand = words_stand h.states (marks h.coefficients) h.few_states h.in_range.marked (rw h.coded at e)

    first_terms : {counts : List ℕ} → FewCounted counts → Terms words counts h (members 64 r) (drop 2 words) (pos 0) h.coefficients
    unfolding sum_words set_words
    first_terms few =
        let m = h.in_range.marked in
        record {
          marked = stands-members marks_stand (record { ascends = m.ascends; below = λ q n. omega (arith, m.below q n, h.few_states) });
          stand = ap (drop 2) h.coded;
          smalls = h.in_range.coefficients;
          adds = λ w o. +ℤ_idl _;
          bounded = omega (arith, few.few (marks h.coefficients) m.ascends);
        }

pub no_term : {words counts : List ℕ} {r set : ℕ} → SumFirst words → FewCounted counts → r ≡ get_or words 0 0 + get_or words 1 0 * W
    → set ≡ r → SumLeft words counts (members 64 set) (take (length words - 2) (drop 2 words)) (pos 0)
no_term {words} {r = r} h few e es =
    rw (es, slice-rest 2 words) (record {
      fits = (r, (marks_stand h e).fits, refl);
      last = (2, refl);
      whole = h;
      few = few;
      terms = λ h. (_, first_terms h e few);
    })

-- ---- the next term

-- the first of the coefficients that are left, by its word and its state
module _ {words counts l rest : List ℕ} {q : ℕ} {sum : ℤ} {h : SumFirst words} {c : Coefficient} {cs : List Coefficient}
    (t : Terms words counts h (q ∷ l) rest sum (c ∷ cs)) {times : ℤ} (et : times ≡ signed (get_or rest 0 0)) where
  term_is : (q ≡ c.state) × (l ≡ marks cs) × (times ≡ c.times) × (nat_abs c.times * get_or counts q 0 ≤ 32768 * get_or counts q 0)
  term_is =
      let (fits, size) = small-known c.times (t.smalls c (Memᴰ.head refl)) in
      let same = t.marked in
      let first : q ≡ c.state = cc in
      let others : l ≡ marks cs = cc in
      (first, others, et ∙ rw t.stand (signed_back c.times fits), mul-le-mul_right _ size)

  next-room : (nat_abs sum + nat_abs times * get_or counts q 0 < 2 ^ 31) × (get_or counts q 0 < 2 ^ 31)
  next-room =
      let (first, others, is, size) = term_is in
      let bounded = rw (← first) at t.bounded in
      rw is (omega (arith, bounded, size), omega (arith, bounded))

  next_terms : {next : ℤ} → next ≡ sum +ℤ (times *ℤ pos (get_or counts q 0)) → Terms words counts h l (drop 1 rest) next cs
  unfolding total
  next_terms es =
      let (first, others, is, size) = term_is in
      let k : ℕ = get_or counts q 0 in
      rw (es, is) (record {
        marked = others;
        stand = ap (drop 1) t.stand;
        smalls = λ d i. t.smalls d (Memᴰ.tail i);
        adds = λ w o.
            let same : k ≡ occurrences c.state w = ap (λ (x : ℕ). get_or counts x 0) first ∙ o.each c.state in
            rw same (+ℤ_assoc sum (c.times *ℤ pos (occurrences c.state w)) (total cs w) ∙ t.adds w o);
        bounded = omega (arith, size, rw (← first) at t.bounded, abs_plus sum (c.times *ℤ pos k), abs_times c.times k);
      })

module _ {words counts l rest : List ℕ} {sum : ℤ} (left : SumLeft words counts l rest sum) where
  module _ {q : ℕ} {next : List ℕ} (e : l ≡ q ∷ next) where
    -- the other states are the members of a set, too
    others_fit : (set : ℕ) × (set < 2 ^ 64) × (members 64 set ≡ next)
    others_fit =
        let (m, lt, is) = left.fits in
        let all : SetBelow 64 (q ∷ next) = rw (is ∙ e) at (members_set 64 m) in
        let others : SetBelow 64 next = record { ascends = all.ascends.1; below = λ x i. all.below x (Memᴰ.tail i) } in
        (mask 64 (has next), mask-< 64 (has next), members-mask 64 next others)

    -- a coefficient is left
    some_term : (h : SumFirst words) → (c : Coefficient) × (cs : List Coefficient) × Terms words counts h (q ∷ next) rest sum (c ∷ cs)
    some_term h = go (rw e at (left.terms h))
      where
        go : (cs : List Coefficient) × Terms words counts h (q ∷ next) rest sum cs
            → (c : Coefficient) × (cs : List Coefficient) × Terms words counts h (q ∷ next) rest sum (c ∷ cs)
        go ([], t) = absurd (let m = t.marked in let o : ◌≡◌ {A = ℕ} 0 1 = cc in omega arith)
        go (c ∷ cs, t) = (c, cs, t)

    -- its word is there
    pub term_there : 0 < length rest
    term_there = let (c, cs, t) = some_term left.whole in omega (arith, ap length t.stand)

    module _ {times : ℤ} (et : times ≡ signed (get_or rest 0 0)) where
      -- there is room for its term
      pub term_room : (nat_abs sum + nat_abs times * get_or counts q 0 < 2 ^ 31) × (get_or counts q 0 < 2 ^ 31)
      term_room = let (c, cs, t) = some_term left.whole in next-room t et

      pub one_term : {more : ℤ} → more ≡ sum +ℤ (times *ℤ pos (get_or counts q 0))
          → SumLeft words counts next (take (length rest - 1) (drop 1 rest)) more
      one_term es =
          rw (slice-rest 1 rest) (record {
            fits = others_fit;
            last = let (k, is) = left.last in (k + 1, ap (drop 1) is ∙ drop-drop 1 k words);
            whole = left.whole;
            few = left.few;
            terms = λ h. let (c, cs, t) = some_term h in (cs, next_terms t et es);
          })

  -- its state is counted
  pub term_counted : (m : ℕ) {q : ℕ} {next : List ℕ} → members 64 m ≡ q ∷ next → q < length counts
  term_counted m {q} e = omega (arith, left.few.long, (members_set 64 m).below q (rw e (Memᴰ.head refl)))

  pub all_terms : l ≡ [] → Summed words counts rest sum
  unfolding total
  all_terms z = record { left = λ h. (go h (left.terms h)).0; is = λ h. (go h (left.terms h)).1 }
    where
      go : (h : SumFirst words) → (cs : List Coefficient) × Terms words counts h l rest sum cs
          → (rest ≡ h.rest) × ((w : List ℕ) → Occurs counts w → sum ≡ total h.coefficients w)
      go h ([], t) = (t.stand, λ w o. sym (+ℤ_idr sum) ∙ t.adds w o)
      go h (c ∷ cs, t) = absurd (let m = sym z ∙ t.marked in let o : ◌≡◌ {A = ℕ} 0 1 = cc in omega arith)
