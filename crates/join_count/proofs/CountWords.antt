-- The words of a count part, and of joint ones.
use mathlib.Core.Path.{◌≡◌, sym, subst}
use mathlib.Core.List.Memᴰ
use mathlib.Core.List.{List, [], ◌∷◌, ◌++◌, map, flat_map}
use Prim.Native.Nat.{ℕ, suc, ◌+◌, ◌-◌, ◌≤◌, ◌<◌}
use native.Mathlib.Omega.{arith}
use lib.ListN.{length, get_or, length-append, length-map}
use Rattle.model.specs.Lists.{◌∈◌}
use Rattle.model.specs.Sheet.{Step, at_most, remainder, not_step, and_step, or_step, step_words, count_words, StepInRange, StepsInRange}
use Rattle.model.specs.Compose.{S, T, Sizes, of_pairs, lift_step}
use Rattle.model.proofs.ListLaws.{each_append}
use Rattle.model.proofs.Spans.{word-there, word-here, word_next}
use Rattle.model.specs.Spans.{StepsAt, CountAt}
use Rattle.join_count.specs.Sums.{joint_steps}

-- steps refer to steps below 32, as there are no more
in_32 : (p i : ℕ) (x : Step) → i ≤ 32 → StepInRange p i x → StepInRange p 32 x
in_32 p i (at_most cs b) l h = h
in_32 p i (remainder cs m r) l h = h
in_32 p i (not_step j) l h = omega arith
in_32 p i (and_step j k) l (h, g) = (omega arith, omega arith)
in_32 p i (or_step j k) l (h, g) = (omega arith, omega arith)

all_in_32 : (p i : ℕ) (ss : List Step) → i + length ss ≤ 32 → StepsInRange p i ss → (x : Step) → x ∈ ss → StepInRange p 32 x
all_in_32 p i [] l h x m = absurd (Memᴰ.not-nil m)
all_in_32 p i (y ∷ ss) l (h, hs) x (Memᴰ.head e) = subst (StepInRange p 32) (sym e) (in_32 p i y (omega arith) h)
all_in_32 p i (y ∷ ss) l (h, hs) x (Memᴰ.tail m) = all_in_32 p (suc i) ss (omega arith) hs x m

-- the number of steps, then the steps
module _ {p c : ℕ} {s : List ℕ} {ss : List Step} (h : CountAt p s c ss) where
  pub count-there : c < length s
  unfolding count_words
  count-there = word-there h.there

  pub count-number : length ss ≡ get_or s c 0
  unfolding count_words
  count-number = sym (word-here h.there)

  pub count-steps : StepsAt p s (c + 1) ss
  unfolding count_words
  count-steps = record {
    end = h.end;
    there = word_next h.there;
    ranges = all_in_32 p 0 ss (omega (arith, h.ranges.few_steps)) h.ranges.steps;
  }

-- ---- lifted count parts, and two in one

pub lifted_count-words : (p : ℕ) (f : Step → Step) (ss : List Step) {n : ℕ} → length ss ≡ n
    → (n ∷ []) ++ flat_map (step_words p) (map f ss) ≡ count_words p (map f ss)
unfolding count_words
lifted_count-words p f ss e = rw (length-map ss f, e)

pub joint-count-words : (n : Sizes) (ss ts : List Step) {k l : ℕ} → length ss ≡ k → length ts ≡ l → let words = step_words (of_pairs n) in
    ((k + l + 1) ∷ []) ++ (flat_map words (map (lift_step S n 0) ss)
    ++ (flat_map words (map (lift_step T n k) ts) ++ (4 ∷ (k - 1) ∷ (k + (l - 1)) ∷ []))) ≡ count_words (of_pairs n) (joint_steps n ss ts)
unfolding count_words flat_map step_words
joint-count-words n ss ts {k} {l} ek el =
    let words = step_words (of_pairs n) in
    let lower = map (lift_step S n 0) ss in
    let upper = map (lift_step T n (length ss)) ts in
    let last = and_step (length ss - 1) (length ss + (length ts - 1)) ∷ [] in
    let number : k + l + 1 ≡ length (lower ++ (upper ++ last))
    = let all = length-append lower (upper ++ last) in
    omega (arith, length-append upper last, length-map ss (lift_step S n 0), length-map ts (lift_step T n (length ss))) in
    rw (number, each_append words lower (upper ++ last), each_append words upper last, ek, el)
