-- What the functions on count parts are lent, and what they find, in the model's terms.
use Rattle.std.specs.Prelude.{◌≡◌, Bool, false, cond, List, ℕ, ◌+◌, ◌^◌, ◌≤◌, ◌<◌, eqb, ℤ, length, get_or, drop}
use Rattle.std.proofs.Math.Option.{some}
use Rattle.std.specs.Int.Signed.{le_z}
use mathlib.Core.List.{[], ◌∷◌, ◌++◌}
use Rattle.model.specs.Lists.{Ascending}
use Rattle.model.specs.Sheet.{Coefficient, Step, sum_words, step_words, count_words, SumInRange, StepInRange, CountInRange, signed, bit}
use Rattle.model.specs.Words.{occurrences, total, remainder_of, holds, fits_count}

-- ---- children

-- how often each state occurs among the states w
pub record Occurs (counts w : List ℕ) : Type 0 where
  pub long : length counts ≡ 64
  pub each : (q : ℕ) → get_or counts q 0 ≡ occurrences q w
  pub few : length w ≤ 4096

-- how often the states in a list occur in all, by the counts
abbrev pub in_all : (counts states : List ℕ) → ℕ
in_all counts [] = 0
in_all counts (q ∷ l) = get_or counts q 0 + in_all counts l

-- counts for 64 states; different states occur at most 4,096 times in all
pub record FewCounted (counts : List ℕ) : Type 0 where
  pub long : length counts ≡ 64
  pub few : (l : List ℕ) → Ascending l → in_all counts l ≤ 4096

-- ---- count parts

-- the words of a count part within its ranges
pub record CountPart (part : List ℕ) : Type 0 where
  pub states : ℕ
  pub steps : List Step
  pub few_states : states ≤ 64
  pub in_range : CountInRange states steps
  pub coded : part ≡ count_words states steps

-- whether a count part fits child states that occur so often
pub record CountSays (part counts : List ℕ) (fits : Bool) : Type 0 where
  pub fitting : (h : CountPart part) (w : List ℕ) → Occurs counts w → fits ≡ fits_count (some h.steps) w

-- ---- sums

-- words that begin with those of a sum, and the words after it
pub record SumFirst (words : List ℕ) : Type 0 where
  pub states : ℕ
  pub coefficients : List Coefficient
  pub rest : List ℕ
  pub few_states : states ≤ 64
  pub in_range : SumInRange states coefficients
  pub coded : words ≡ sum_words states coefficients ++ rest

-- the words after the sum, and what it comes to
pub record Summed (words counts rest : List ℕ) (z : ℤ) : Type 0 where
  pub left : (h : SumFirst words) → rest ≡ h.rest
  pub is : (h : SumFirst words) (w : List ℕ) → Occurs counts w → z ≡ total h.coefficients w

-- a sum z is at most the bound that comes first; the words after it
abbrev pub AtMost : List ℕ → ℤ → (rest : List ℕ) → Bool → Type 0
AtMost words z rest b = (b ≡ le_z z (signed (get_or words 0 0))) × (rest ≡ drop 1 words)

-- a sum z leaves the second word on division by the first, and 0 on division by 0; the words after the two
abbrev pub Leaves : List ℕ → ℤ → (rest : List ℕ) → Bool → Type 0
Leaves words z rest b =
    let m = get_or words 0 0 in
    (b ≡ eqb (cond (eqb m 0) 0 (remainder_of z m)) (get_or words 1 0)) × (rest ≡ drop 2 words)

-- ---- steps

-- the bits of `set` are the truths of the earlier steps
pub record Truths (set : ℕ) (earlier : List Bool) : Type 0 where
  pub fits : set < 2 ^ 64
  pub same : (i : ℕ) → bit set i ≡ get_or earlier i false

-- words that begin with those of a step, and the words after it
pub record StepFirst (words : List ℕ) : Type 0 where
  pub states : ℕ
  pub number : ℕ
  pub step : Step
  pub rest : List ℕ
  pub few_states : states ≤ 64
  pub in_range : StepInRange states number step
  pub coded : words ≡ step_words states step ++ rest

-- the words after the step, and whether it holds
pub record StepSays (words counts : List ℕ) (truths : ℕ) (rest : List ℕ) (b : Bool) : Type 0 where
  pub left : (h : StepFirst words) → rest ≡ h.rest
  pub says : (h : StepFirst words) (earlier : List Bool) → Truths truths earlier → (w : List ℕ) → Occurs counts w
      → b ≡ holds w earlier h.step
