-- The words of a step, by its kind.
use mathlib.Core.Path.{◌≡◌, refl, sym, ap, ◌∙◌, subst}
use mathlib.Core.List.{List, [], ◌∷◌, ◌++◌, map}
use Prim.Native.Nat.{ℕ, zero, suc, ◌+◌, ◌-◌, ◌*◌, ◌≤◌, ◌<◌}
use native.Mathlib.Omega.{arith}
use lib.ListN.{length, get_or, take, drop, length-append}
use lib.Seq.{take_at, drop_at, take_all}
use borrow.Author.Tests as tests
use Rattle.std.specs.Borrow.{Bor}
use Rattle.model.specs.Sheet.{W, Coefficient, Step, at_most, remainder, not_step, and_step, or_step}
use Rattle.model.specs.Sheet.{signed_word, set_words, sum_words, step_words, SumInRange, StepInRange}
use Rattle.model.specs.Compose.{Side, Sizes, of_pairs, lift_sum, lift_step}
use Rattle.model.specs.Spans.{WordsAt, SumAt, StepAt}
use Rattle.model.proofs.Spans.{word-here, word_next, span_left}
use Rattle.model.proofs.PartLaws.{words-within}
use Rattle.parts.specs.Lengths.{sum_length, step_length}
use Rattle.join_pairs.specs.Sides.{side_of, own_states}
use Rattle.join_pairs.proofs.NumberLaws.{few_side}
use Rattle.join_sum.specs.Sums.{SumOf}
use Rattle.join_sum.proofs.SumWords.{times_words, sum-long}
use Rattle.join_count.specs.declared.Lift.{Lift}
use Rattle.join_count.specs.Steps.{StepOf, SomeStep}

-- ---- a step over p states by its words

-- one that begins with a sum: as many words follow the sum as the number of its kind
pub record SumStep (p : ℕ) (ws : List ℕ) (x : Step) : Type 0 where
  pub coefficients : List Coefficient
  pub tail : List ℕ
  pub is : ws ≡ length tail ∷ (sum_words p coefficients ++ tail)
  pub ranges : SumInRange p coefficients
  pub lifted : (side : Side) (n : Sizes) (shift : ℕ)
      → length tail ∷ (sum_words (of_pairs n) (lift_sum side n coefficients) ++ tail) ≡ step_words (of_pairs n) (lift_step side n shift x)

-- one that refers to other steps by their numbers
pub record Refers (ws : List ℕ) (x : Step) : Type 0 where
  pub kind : ℕ
  pub numbers : List ℕ
  pub is : ws ≡ kind ∷ numbers
  pub small : (i : ℕ) → i < length numbers → get_or numbers i 0 < 32
  pub lifted : (side : Side) (n : Sizes) (shift : ℕ)
      → kind ∷ map (λ i. shift + i) numbers ≡ step_words (of_pairs n) (lift_step side n shift x)

one_small : {j : ℕ} → j < 32 → (i : ℕ) → i < 1 → get_or (j ∷ []) i 0 < 32
one_small h zero l = h
one_small h (suc i) l = absurd (omega arith)

two_small : {j k : ℕ} → (j < 32) × (k < 32) → (i : ℕ) → i < 2 → get_or (j ∷ k ∷ []) i 0 < 32
two_small h zero l = h.0
two_small h (suc i) l = one_small h.1 i (omega arith)

module _ (p : ℕ) where
  pub sum_step : (x : Step) → StepInRange p 32 x → get_or (step_words p x) 0 0 ≤ 2 → SumStep p (step_words p x) x
  unfolding step_words lift_step
  sum_step (at_most cs b) h l =
      record { coefficients = cs; tail = signed_word b ∷ []; is = refl; ranges = h.0; lifted = λ side n shift. refl }
  sum_step (remainder cs m r) h l =
      record { coefficients = cs; tail = m ∷ r ∷ []; is = refl; ranges = h.0; lifted = λ side n shift. refl }
  sum_step (not_step i) h l = absurd (omega arith)
  sum_step (and_step i j) h l = absurd (omega arith)
  sum_step (or_step i j) h l = absurd (omega arith)

  pub refers : (x : Step) → StepInRange p 32 x → 2 < get_or (step_words p x) 0 0 → Refers (step_words p x) x
  unfolding step_words lift_step
  refers (at_most cs b) h l = absurd (omega arith)
  refers (remainder cs m r) h l = absurd (omega arith)
  refers (not_step i) h l =
      record { kind = 3; numbers = i ∷ []; is = refl; small = one_small h; lifted = λ side n shift. refl }
  refers (and_step i j) h l =
      record { kind = 4; numbers = i ∷ j ∷ []; is = refl; small = two_small h; lifted = λ side n shift. refl }
  refers (or_step i j) h l =
      record { kind = 5; numbers = i ∷ j ∷ []; is = refl; small = two_small h; lifted = λ side n shift. refl }

  some_word : (x : Step) → 0 < length (step_words p x)
  unfolding step_words
  some_word (at_most cs b) = omega arith
  some_word (remainder cs m r) = omega arith
  some_word (not_step i) = omega arith
  some_word (and_step i j) = omega arith
  some_word (or_step i j) = omega arith

-- ---- a step's end, as the code tells it

module _ {p a : ℕ} {s : List ℕ} where
  sum-end : p ≤ 64 → (x : Step) (h : StepAt p s a x) → get_or s a 0 ≤ 2 → SumStep p (step_words p x) x → a + step_length s a ≡ h.end
  unfolding step_length
  sum-end few x h l v =
      let cs = v.coefficients in
      let w : WordsAt s a h.end (length v.tail ∷ (sum_words p cs ++ v.tail)) = subst (WordsAt s a h.end) v.is h.there in
      let sum : SumAt p s (a + 1) cs
      = record { end = a + 1 + length (sum_words p cs); there = span_left (sum_words p cs) v.tail (word_next w); ranges = v.ranges } in
      let two : a + 1 + 1 ≡ a + 2 = omega arith in
      let end : a + (1 + sum_length (get_or s (a + 1) 0) (get_or s (a + 2) 0) + get_or s a 0) ≡ h.end
      = omega (arith, rw two at (sum-long few sum), w.ends, word-here w, length-append (sum_words p cs) v.tail) in
      rw (tests.le-leb (get_or s a 0) 2 l) end

  pub step_end : p ≤ 64 → (x : Step) (h : StepAt p s a x) → (a + step_length s a ≡ h.end) × (h.end ≤ length s)
  unfolding step_length step_words
  step_end few (at_most cs b) h =
      let l : get_or s a 0 ≤ 2 = omega (arith, word-here h.there) in
      (sum-end few (at_most cs b) h l (sum_step p (at_most cs b) h.ranges (omega arith)), words-within h.there (omega arith))
  step_end few (remainder cs m r) h =
      let l : get_or s a 0 ≤ 2 = omega (arith, word-here h.there) in
      (sum-end few (remainder cs m r) h l (sum_step p (remainder cs m r) h.ranges (omega arith)), words-within h.there (omega arith))
  step_end few (not_step i) h = (rw (word-here h.there) (sym h.there.ends), words-within h.there (omega arith))
  step_end few (and_step i j) h = (rw (word-here h.there) (sym h.there.ends), words-within h.there (omega arith))
  step_end few (or_step i j) h = (rw (word-here h.there) (sym h.there.ends), words-within h.there (omega arith))

-- ---- the step that the code is given

module _ (l : Lift) where
  pub few_states : own_states l.half ≤ 64
  few_states = few_side l.half.sizes.few (side_of l.half.side)

module _ {l : Lift} {ws : List ℕ} where
  pub step_begins : SomeStep l ws → 0 < length ws
  step_begins (x, h) = rw h.is (some_word (own_states l.half) x)

  pub sum_here : get_or ws 0 0 ≤ 2 → (x : Step) → StepOf l ws x → SumStep (own_states l.half) ws x
  sum_here k x h = subst (λ us. SumStep (own_states l.half) us x) (sym h.is) (sum_step (own_states l.half) x h.ranges (rw (← h.is) k))

  pub refers_here : 2 < get_or ws 0 0 → (x : Step) → StepOf l ws x → Refers ws x
  refers_here k x h = subst (λ us. Refers us x) (sym h.is) (refers (own_states l.half) x h.ranges (rw (← h.is) k))

-- ---- a sum and what follows it, as the code finds them

module _ (p : ℕ) {ws : List ℕ} (tail : List ℕ) (cs : List Coefficient) (e : ws ≡ length tail ∷ (sum_words p cs ++ tail)) where
  pub tail-long : (get_or ws 0 0 ≡ length tail) × (length ws ≡ 3 + length (times_words cs) + length tail)
  unfolding sum_words set_words
  tail-long = rw e (refl, omega (arith, length-append (times_words cs) tail))

  pub sum_found : SumInRange p cs → {set : ℕ} {times : Bor (List ℕ)} → set ≡ get_or ws 1 0 + get_or ws 2 0 * W
      → times.now ≡ take (length ws - get_or ws 0 0 - 3) (drop 3 ws) → SumOf p (record { marks = set; times = times }) cs
  unfolding sum_words set_words
  sum_found ranges es et = record {
    ranges = ranges;
    marks = es ∙ rw e (omega arith);
    words = et ∙ rw e (take_at (times_words cs) tail _ (omega (arith, length-append (times_words cs) tail)));
  }

  pub tail_found : take (length ws - (length ws - get_or ws 0 0)) (drop (length ws - get_or ws 0 0) ws) ≡ tail
  unfolding sum_words set_words
  tail_found =
      let front = length tail ∷ sum_words p cs in
      let n : length ws - get_or ws 0 0 ≡ length front = omega (arith, tail-long) in
      let m : length ws - (length ws - get_or ws 0 0) ≡ length tail = omega (arith, tail-long) in
      let rest : drop (length ws - get_or ws 0 0) ws ≡ tail = rw n (rw e (drop_at front tail (length front) refl)) in
      rw (m, rest) (take_all (length tail) tail (omega arith))

-- the numbers of the steps that a step refers to
pub numbers_found : {ws : List ℕ} {k : ℕ} (numbers : List ℕ) → ws ≡ k ∷ numbers → take (length ws - 1) (drop 1 ws) ≡ numbers
numbers_found {ws} numbers e =
    let m : length ws - 1 ≡ length numbers = omega (arith, ap length e) in
    rw (m, e) (take_all (length numbers) numbers (omega arith))
