-- How many words a lifted count part has: its own, and each coefficient once more for every further state of the other sheet.
use mathlib.Core.Path.{◌≡◌, refl, sym, ap, ◌∙◌}
use mathlib.Core.Bool.{Bool, true, false, cond}
use mathlib.Core.List.{List, [], ◌∷◌, ◌++◌, map, flat_map, append-nil}
use Prim.Native.Nat.{ℕ, zero, suc, ◌+◌, ◌-◌, ◌*◌, ◌≤◌, ◌<◌}
use native.Mathlib.Nat.{suc-mul, mul-suc}
use native.Mathlib.Omega.{arith}
use lib.Dec.{leb, eqb}
use lib.ListN.{length, get_or, drop, length-append, length-map, drop_of_length-le}
use borrow.Author.Tests as tests
use Rattle.model.specs.Lists.{only, numbers, SetBelow}
use Rattle.model.specs.Sheet.{W, members, bit, Coefficient, Step, at_most, remainder, not_step, and_step, or_step, marks, signed_word}
use Rattle.model.specs.Sheet.{set_words, sum_words, step_words, count_words, SumInRange, StepInRange}
use Rattle.model.specs.Compose.{Side, S, T, Sizes, of_side, of_other, of_pairs, lift_sum, lift_step}
use Rattle.model.specs.Spans.{WordsAt, SumAt, StepAt, CountAt}
use Rattle.model.proofs.ListLaws.{length-each, length-only, length_from}
use Rattle.model.proofs.Spans.{word-here, word_next, span_left}
use Rattle.model.proofs.PartLaws.{each_next, each_none}
use Rattle.page.specs.Page.{repeated, repeated_each}
use Rattle.parts.specs.Lengths.{sum_length, step_length}
use Rattle.join_sum.proofs.SumWords.{lifted_times, times_words, times_lifted, sum-long}
use Rattle.join_pairs.specs.Pairs.{FewPairs}
use Rattle.join_pairs.proofs.NumberLaws.{mul_le, few_side, few_other}
use Rattle.join_count.proofs.StepWords.{step_end}
use Rattle.join_count.proofs.StepLaws.{no_step}
use Rattle.join_count.specs.Counts.{StepsOf}
use Rattle.join_count.specs.Walks.{StepNext, steps_left}
use Rattle.join_count.specs.declared.Steps.{Steps}
use Rattle.indexed.specs.declared.Part.{Part}
use Rattle.join_extents.specs.Extents.{coefficients_at}

-- ---- the coefficients of a lifted sum

length-repeated : (n : ℕ) (ws : List ℕ) → length (repeated n ws) ≡ length ws * n
unfolding repeated
length-repeated zero ws = omega arith
length-repeated (suc n) ws = omega (arith, length-append ws (repeated n ws), length-repeated n ws, mul-suc (length ws) n)

length-repeated-each : (n : ℕ) (ws : List ℕ) → length (repeated_each n ws) ≡ length ws * n
unfolding flat_map
length-repeated-each n [] = omega arith
length-repeated-each n (w ∷ ws) =
    omega (
      arith,
      length-append (repeated n (w ∷ [])) (repeated_each n ws),
      length-repeated n (w ∷ []),
      length-repeated-each n ws,
      suc-mul (length ws) n,
    )

length_lifted : (side : Side) (n : Sizes) (ws : List ℕ) → length (lifted_times side n ws) ≡ length ws * of_other side n
length_lifted S n ws = length-repeated-each n.of_T ws
length_lifted T n ws = length-repeated n.of_S ws

-- a sum has two words of marks, and a word for each coefficient
sum-words-long : (p : ℕ) (cs : List Coefficient) → length (sum_words p cs) ≡ 2 + length cs
unfolding sum_words set_words
sum-words-long p cs = omega (arith, length-map cs (λ c. signed_word c.times))

lifted_sum-long : (side : Side) (n : Sizes) (cs : List Coefficient) → SetBelow (of_side side n) (marks cs)
    → length (sum_words (of_pairs n) (lift_sum side n cs)) ≡ 2 + length cs * of_other side n
lifted_sum-long side n cs h =
    let times : Coefficient → ℕ = λ c. signed_word c.times in
    let long = ap length (times_lifted n cs side h) ∙ length-map (lift_sum side n cs) times in
    let same : length (times_words cs) ≡ length cs = length-map cs times in
    sum-words-long (of_pairs n) (lift_sum side n cs)
    ∙ ap (λ (k : ℕ). 2 + k) (sym long ∙ length_lifted side n (times_words cs) ∙ ap (λ (k : ℕ). k * of_other side n) same)

-- ---- a lifted step

module _ {p a : ℕ} {s : List ℕ} (few : p ≤ 64) where
  coefficients-here : {k end : ℕ} (cs : List Coefficient) (tail : List ℕ) → SumInRange p cs → k ≤ 2
      → WordsAt s a end (k ∷ (sum_words p cs ++ tail)) → coefficients_at s a ≡ length cs
  unfolding coefficients_at sum_length
  coefficients-here {k} cs tail ranges l w =
      let sum : SumAt p s (a + 1) cs
      = record { end = a + 1 + length (sum_words p cs); there = span_left (sum_words p cs) tail (word_next w); ranges = ranges } in
      let two : a + 1 + 1 ≡ a + 2 = omega arith in
      rw (word-here w, tests.le-leb k 2 l) (omega (arith, rw two at (sum-long few sum), sum-words-long p cs))

  no_coefficients : {k end : ℕ} {ws : List ℕ} → WordsAt s a end (k ∷ ws) → 2 < k → coefficients_at s a ≡ 0
  unfolding coefficients_at
  no_coefficients {k} w l = rw (word-here w, tests.lt-leb k 2 l)

-- the words of a step, and of the same step lifted, where m states of the other sheet are not the first
module _ {a : ℕ} {s : List ℕ} (side : Side) (n : Sizes) (few : of_side side n ≤ 64) {m : ℕ} (others : of_other side n ≡ suc m) where
  with_sum : {k end : ℕ} (cs : List Coefficient) (tail : List ℕ) → SumInRange (of_side side n) cs → k ≤ 2
      → WordsAt s a end (k ∷ (sum_words (of_side side n) cs ++ tail))
      → length (k ∷ (sum_words (of_pairs n) (lift_sum side n cs) ++ tail))
      ≡ length (k ∷ (sum_words (of_side side n) cs ++ tail)) + coefficients_at s a * m
  with_sum cs tail ranges l w =
      let long = rw others at (lifted_sum-long side n cs ranges.marked) in
      rw (coefficients-here few cs tail ranges l w)
      (omega (
        arith,
        length-append (sum_words (of_pairs n) (lift_sum side n cs)) tail,
        length-append (sum_words (of_side side n) cs) tail,
        long,
        sum-words-long (of_side side n) cs,
        mul-suc (length cs) m,
      ))

  longer : (x : Step) → StepAt (of_side side n) s a x
      → length (step_words (of_pairs n) (lift_step side n 0 x)) ≡ length (step_words (of_side side n) x) + coefficients_at s a * m
  unfolding step_words lift_step
  longer (at_most cs b) h = with_sum cs (signed_word b ∷ []) h.ranges.0 (omega arith) h.there
  longer (remainder cs k r) h = with_sum cs (k ∷ r ∷ []) h.ranges.0 (omega arith) h.there
  longer (not_step i) h = rw (no_coefficients few h.there (omega arith)) (omega arith)
  longer (and_step i j) h = rw (no_coefficients few h.there (omega arith)) (omega arith)
  longer (or_step i j) h = rw (no_coefficients few h.there (omega arith)) (omega arith)

-- the words of a step, by themselves
alone : {p : ℕ} {ws : List ℕ} (x : Step) → ws ≡ step_words p x → StepInRange p 32 x → StepAt p ws 0 x
alone {p} {ws} x e h =
    let stands : ws ≡ step_words p x ++ drop (length ws) ws
    = rw (drop_of_length-le ws {i = length ws} (omega arith)) (e ∙ sym (append-nil _)) in
    record { end = length ws; there = record { stands = stands; ends = omega (arith, ap length e) }; ranges = h }

-- ---- by the code's tests

module _ (s : List ℕ) (a : ℕ) {kind : ℕ} (e : kind ≡ get_or s a 0) where
  pub none_there : 2 < kind → 0 ≡ coefficients_at s a
  unfolding coefficients_at
  none_there l = sym (rw (← e, tests.lt-leb kind 2 l))

  pub some-there : kind ≤ 2 → {low high set n r : ℕ} → low ≡ get_or s (a + 1) 0 → high ≡ get_or s (a + 2) 0 → set ≡ low + high * W
      → n ≡ length (members 64 set) → r ≡ n → r ≡ coefficients_at s a
  unfolding coefficients_at
  some-there l el eh es en er = er ∙ en ∙ sym (rw (← e, tests.le-leb kind 2 l, ← el, ← eh, ← es))

-- ---- a step has few words

members-few : (n : ℕ) → length (members 64 n) ≤ 64
unfolding members
members-few n =
    omega (arith, length-each (λ i. only (bit n i) i) 1 (λ i. length-only (bit n i) i) (numbers 64), length_from 64 0)

pub coefficients-few : (s : List ℕ) (a : ℕ) → coefficients_at s a ≤ 64
unfolding coefficients_at
coefficients-few s a = go (leb (get_or s a 0) 2)
  where
    go : (b : Bool) → cond b (length (members 64 (get_or s (a + 1) 0 + get_or s (a + 2) 0 * W))) 0 ≤ 64
    go true = members-few _
    go false = omega arith

pub step-few : (s : List ℕ) (a : ℕ) → step_length s a ≤ 69
unfolding step_length sum_length
step-few s a = go (leb (get_or s a 0) 2) (eqb (get_or s a 0) 3) (λ e. tests.leb-true (get_or s a 0) 2 e)
  where
    go : (b c : Bool) → (b ≡ true → get_or s a 0 ≤ 2)
        → cond b (1 + (2 + length (members 64 (get_or s (a + 1) 0 + get_or s (a + 2) 0 * W))) + get_or s a 0) (cond c 2 3) ≤ 69
    go true c l = omega (arith, l refl, members-few (get_or s (a + 1) 0 + get_or s (a + 2) 0 * W))
    go false true l = omega arith
    go false false l = omega arith

-- ---- the steps of a count part, one after another

-- m states of the other sheet are not the first
pub record Lifting (side : Side) (n : Sizes) (m : ℕ) : Type 0 where
  pub few : of_side side n ≤ 64
  pub others : of_other side n ≡ suc m

pub lifting : (side : Side) {n : Sizes} → FewPairs n → {w : ℕ} → w ≡ of_other side n → Lifting side n (w - 1) × (1 ≤ w) × (w ≤ 64)
lifting side {n} h {w} e =
    let one : 1 ≤ of_other side n = some_other side in
    (record { few = few_side h side; others = omega arith }, omega arith, omega (arith, few_other h side))
  where
    some_other : (side : Side) → 1 ≤ of_other side n
    some_other S = h.some_T
    some_other T = h.some_S

abbrev pub lifted_steps : Side → Sizes → List Step → List ℕ
lifted_steps side n ss = flat_map (step_words (of_pairs n)) (map (lift_step side n 0) ss)

-- the steps of a count part before those that are left are measured, and come to l words with their number
pub record Measured (x : Part) (m l : ℕ) (y : Steps) : Type 0 where
  pub some : l + 4101 * y.left ≤ 1 + 4101 * 32
  pub left : (side : Side) (n : Sizes) → Lifting side n m → (ss : List Step) → CountAt (of_side side n) x.words.now x.at ss
      → (rest : List Step) × steps_left (of_side side n) y rest
      × (l + length (lifted_steps side n rest) ≡ 1 + length (lifted_steps side n ss))

pub measure_begun : {x : Part} {m p : ℕ} {y : Steps} {ss : List Step} → StepsOf x y.words.now y.at y.left → p ≤ 64
    → CountAt p x.words.now x.at ss → Measured x m 1 y
measure_begun {p = p} {ss = ss} h few at = record {
  some = omega (arith, (h p few ss at).number, at.ranges.few_steps);
  left = λ side n z ss at. (ss, h (of_side side n) z.few ss at, refl);
}

module _ {x : Part} {m l : ℕ} {y : Steps} (h : Measured x m l y) where
  module _ {ws : List ℕ} {y' : Steps} (next : StepNext y ws y') where
    -- the next step has few words
    pub step_short : {side : Side} {n : Sizes} → Lifting side n m → {ss : List Step} → CountAt (of_side side n) x.words.now x.at ss
        → length ws ≤ 69
    step_short {side} {n} z {ss} at =
        let (rest, left, _) = h.left side n z ss at in
        let v = next.first _ rest left in
        let step = alone v.step v.is v.ranges in
        let (end, _) = step_end z.few v.step step in
        omega (arith, step-few ws 0, end, step.there.ends, ap length v.is)

    pub measure_more : {coefficients l' : ℕ} → length ws ≤ 69 → coefficients ≡ coefficients_at ws 0 → m ≤ 63
        → l' ≡ l + (length ws + coefficients * m) → Measured x m l' y'
    measure_more {coefficients} short ec few el = record {
      some = omega (
        arith,
        h.some,
        next.fewer,
        mul_le coefficients m {x = 64} {y = 63} (omega (arith, ec, coefficients-few ws 0)) few,
      );
      left = λ side n z ss at.
          let (rest, left, long) = h.left side n z ss at in
          let v = next.first _ rest left in
          let more = longer side n z.few z.others v.step (alone v.step v.is v.ranges) in
          let after = each_next (step_words (of_pairs n)) (ap (map (lift_step side n 0)) v.split) in
          let words = step_words (of_pairs n) (lift_step side n 0 v.step) in (
            v.others,
            v.left,
            rw (el, ec)
                (omega (arith, long, ap length after, length-append words (lifted_steps side n v.others), more, ap length v.is)),
          );
    }

  pub measure_done : y.left ≡ 0 → {side : Side} {n : Sizes} → Lifting side n m → (ss : List Step)
      → CountAt (of_side side n) x.words.now x.at ss → l ≡ length (count_words (of_pairs n) (map (lift_step side n 0) ss))
  unfolding count_words
  measure_done e {side} {n} z ss at =
      let (rest, left, long) = h.left side n z ss at in
      let none = each_none (step_words (of_pairs n)) (ap (map (lift_step side n 0)) (no_step left e)) in
      omega (arith, long, ap length none)
