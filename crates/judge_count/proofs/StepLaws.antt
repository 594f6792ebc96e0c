-- Steps of a count part: by kind, what stands first, what is left, and what they say; and one after another, with their truths.
use mathlib.Core.Path.{◌≡◌, refl, ap, ap₂, ◌∙◌, subst, sym}
use mathlib.Core.Bool.{Bool, false, not, ◌&&◌, ◌||◌, true, cond, and-false, or-false}
use mathlib.Core.Option.{some}
use mathlib.Core.List.{List, [], ◌∷◌, ◌++◌, flat_map, append_assoc}
use Prim.Native.Nat.{ℕ, zero, suc, ◌+◌, ◌≤◌, ◌<◌, ◌-◌}
use native.Mathlib.Omega.{arith}
use native.Mathlib.Numerals.{add-one}
use lib.Dec.{eqb, lit<, eqb-zero-suc, eqb-suc-zero, eqb-suc-suc}
use lib.IntN.{ℤ}
use lib.Signed.{le_z}
use lib.ListN.{length, get_or, take, drop, length-append}
use borrow.Author.Tests.{ne_eqb}
use Rattle.model.specs.Sheet.{Coefficient, Step, at_most, remainder, not_step, and_step, or_step, sum_words, signed_word, step_words}
use Rattle.model.specs.Sheet.{SumInRange, StepInRange, signed, bit, mask, count_words, StepsInRange}
use Rattle.model.specs.Words.{total, remainder_of, holds, truths, fits_count}
use Rattle.model.specs.Lists.{has}
use Rattle.model.proofs.SetWords.{mask-<}
use Rattle.bits.proofs.SetLaws.{none_stands, bit_with}
use Rattle.judge_count.specs.Count.{Occurs, SumFirst, Summed, StepFirst, Truths, CountPart, CountSays, StepSays}
use Rattle.judge_count.proofs.SumLaws.{signed_back, slice-rest}

-- ---- what stands at a step

-- n words end a step, which holds by a test on the child states and the earlier steps
pub record Ends (words : List ℕ) (n : ℕ) (rest : List ℕ) (s : Step) (test : List ℕ → List Bool → Bool) : Type 0 where
  pub room : n ≤ length words
  pub left : drop n words ≡ rest
  pub says : (w : List ℕ) (earlier : List Bool) → test w earlier ≡ holds w earlier s

-- after a sum; the test is on what the sum comes to, and the words after it
pub record EndsSum (words : List ℕ) (n : ℕ) (rest : List ℕ) (s : Step) (test : ℤ → List ℕ → Bool) : Type 0 where
  pub sum : SumFirst words
  pub after : Ends sum.rest n rest s (λ w earlier. test (total sum.coefficients w) sum.rest)

-- by the truths of two earlier steps
abbrev PairFirst : (Bool → Bool → Bool) → (words rest : List ℕ) → Step → Type 0
PairFirst op words rest s =
    Ends words 3 rest s (λ w earlier. op (get_or earlier (get_or words 1 0) false) (get_or earlier (get_or words 2 0) false))

-- what a step of each kind says
abbrev pub Said : ℕ → (words rest : List ℕ) → Step → Type 0
Said zero words rest s = ⊥
Said (suc zero) words rest s = EndsSum (drop 1 words) 1 rest s (λ z after. le_z z (signed (get_or after 0 0)))
Said (suc (suc zero)) words rest s = EndsSum (drop 1 words) 2 rest s
    (λ z after. let m = get_or after 0 0 in eqb (cond (eqb m 0) 0 (remainder_of z m)) (get_or after 1 0))
Said (suc (suc (suc zero))) words rest s = Ends words 2 rest s (λ w earlier. not (get_or earlier (get_or words 1 0) false))
Said (suc (suc (suc (suc zero)))) words rest s = PairFirst ◌&&◌ words rest s
Said (suc (suc (suc (suc (suc zero))))) words rest s = PairFirst ◌||◌ words rest s
Said (suc (suc (suc (suc (suc (suc k)))))) words rest s = ⊥

-- a step begins with its kind, and says what its kind says
abbrev pub Known : (words rest : List ℕ) → Step → Type 0
Known words rest s = (0 < length words) × (1 ≤ get_or words 0 0) × (get_or words 0 0 ≤ 5) × Said (get_or words 0 0) words rest s

-- a sum, and the words v after it, which end the step
sum-ends : {p n : ℕ} {rest : List ℕ} {s : Step} {test : ℤ → List ℕ → Bool} (cs : List Coefficient) (v : List ℕ) → p ≤ 64 → SumInRange p cs
    → Ends (v ++ rest) n rest s (λ w earlier. test (total cs w) (v ++ rest)) → EndsSum ((sum_words p cs ++ v) ++ rest) n rest s test
sum-ends {p} {rest = rest} cs v few h after = record {
  sum = record {
    states = p;
    coefficients = cs;
    rest = v ++ rest;
    few_states = few;
    in_range = h;
    coded = append_assoc (sum_words p cs) v rest;
  };
  after = after;
}

known : (p i : ℕ) {words : List ℕ} (rest : List ℕ) (s : Step) → p ≤ 64 → StepInRange p i s → words ≡ step_words p s ++ rest
    → Known words rest s
unfolding step_words holds
known p i rest (at_most cs b) few (h, y) e =
    rw e (
      omega arith,
      omega arith,
      omega arith,
      sum-ends cs (signed_word b ∷ []) few h (record {
        room = omega arith;
        left = refl;
        says = λ w earlier. rw (signed_back b y);
      }),
    )
known p i rest (remainder cs m r) few (h, lo, hi, l) e =
    rw e (
      omega arith,
      omega arith,
      omega arith,
      sum-ends cs (m ∷ r ∷ []) few h (record {
        room = omega arith;
        left = refl;
        says = λ w earlier. rw (ne_eqb m 0 (omega arith));
      }),
    )
known p i rest (not_step j) few h e =
    rw e (omega arith, omega arith, omega arith, record { room = omega arith; left = refl; says = λ w earlier. refl })
known p i rest (and_step j l) few h e =
    rw e (omega arith, omega arith, omega arith, record { room = omega arith; left = refl; says = λ w earlier. refl })
known p i rest (or_step j l) few h e =
    rw e (omega arith, omega arith, omega arith, record { room = omega arith; left = refl; says = λ w earlier. refl })

module _ {words : List ℕ} (h : StepFirst words) where
  pub kind-there : Known words h.rest h.step
  kind-there = known h.states h.number h.rest h.step h.few_states h.in_range h.coded

  -- what a step says, by its kind k
  pub said : (k : ℕ) → get_or words 0 0 ≡ k → Said k words h.rest h.step
  said k e = subst (λ (x : ℕ). Said x words h.rest h.step) e kind-there.3

-- the words of a step are there
module _ {words : List ℕ} (h : StepFirst words) where
  pub step_room : 0 < length words
  step_room = (kind-there h).0

  pub not_room : get_or words 0 0 ≡ 3 → 2 ≤ length words
  not_room e = (said h 3 e).room

  pub and_room : get_or words 0 0 ≡ 4 → 3 ≤ length words
  and_room e = (said h 4 e).room

  pub or_room : get_or words 0 0 ≡ 5 → 3 ≤ length words
  or_room e = (said h 5 e).room

pub ruleset step_rooms = (step_room, not_room, and_room, or_room)

-- ---- what the code finds

-- after a sum
summed : (words : List ℕ) {counts after : List ℕ} {z : ℤ} → Summed (take (length words - 1) (drop 1 words)) counts after z
    → Summed (drop 1 words) counts after z
summed words sum = rw (slice-rest 1 words) at sum

module _ (words : List ℕ) {counts after : List ℕ} {n : ℕ} {z : ℤ} {test : ℤ → List ℕ → Bool}
    (sum : Summed (take (length words - 1) (drop 1 words)) counts after z) where
  pub sum_room : {rest : List ℕ} {s : Step} → EndsSum (drop 1 words) n rest s test → n ≤ length after
  sum_room a = rw ((summed words sum).left a.sum) a.after.room

  pub sum-found : {truths : ℕ} {b : Bool} {left : List ℕ} → ((h : StepFirst words) → EndsSum (drop 1 words) n h.rest h.step test)
      → (b ≡ test z after) × (left ≡ drop n after) → StepSays words counts truths left b
  sum-found ends (eb, el) = record {
    left = λ h. el ∙ ap (drop n) ((summed words sum).left (ends h).sum) ∙ (ends h).after.left;
    says = λ h earlier t w o.
        let a = ends h in
        eb ∙ rw ((summed words sum).left a.sum, (summed words sum).is a.sum w o) (a.after.says w earlier);
  }

-- of earlier steps
module _ {words counts : List ℕ} {truths : ℕ} where
  pub not_found : {a : Bool} → a ≡ bit truths (get_or words 1 0) → ((h : StepFirst words) → Said 3 words h.rest h.step)
      → StepSays words counts truths (take (length words - 2) (drop 2 words)) (not a)
  not_found ea ends = record {
    left = λ h. slice-rest 2 words ∙ (ends h).left;
    says = λ h earlier t w o. ap not (ea ∙ t.same _) ∙ (ends h).says w earlier;
  }

  pub pair_found : (op : Bool → Bool → Bool) {a b : Bool} → a ≡ bit truths (get_or words 1 0) → b ≡ bit truths (get_or words 2 0)
      → ((h : StepFirst words) → PairFirst op words h.rest h.step)
      → StepSays words counts truths (take (length words - 3) (drop 3 words)) (op a b)
  pair_found op ea eb ends = record {
    left = λ h. slice-rest 3 words ∙ (ends h).left;
    says = λ h earlier t w o. ap₂ op (ea ∙ t.same _) (eb ∙ t.same _) ∙ (ends h).says w earlier;
  }

-- ---- truths

get_or-last : (l : List Bool) (b : Bool) (j : ℕ) → get_or (l ++ (b ∷ [])) j false ≡ (get_or l j false || (b && eqb j (length l)))
get_or-last [] true zero = refl
get_or-last [] false zero = refl
get_or-last [] b (suc j) = sym (ap (λ t. b && t) (eqb-suc-zero j) ∙ and-false b)
get_or-last (x ∷ l) b zero = sym (ap (λ t. x || (b && t)) (eqb-zero-suc (length l)) ∙ ap (λ t. x || t) (and-false b) ∙ or-false x)
get_or-last (x ∷ l) b (suc j) = get_or-last l b j ∙ ap (λ t. get_or l j false || (b && t)) (sym (eqb-suc-suc j (length l)))

one_truth : {set i r : ℕ} {earlier : List Bool} (b : Bool) → Truths set earlier → length earlier ≡ i → i < 64
    → r ≡ mask 64 (λ j. bit set j || (b && eqb j i)) → Truths r (earlier ++ (b ∷ []))
one_truth {set} {i} {earlier = earlier} b t n h e =
    rw e (record { fits = mask-< 64 _; same = λ j. rw (bit_with b set i j t.fits h, get_or-last earlier b j, t.same j, n) })

-- ---- what is left of a part

-- the bits of `set` are the truths of i steps, which with those of the steps `left` are the truths of all
record TruthsSoFar (steps : List Step) (w : List ℕ) (set i : ℕ) (left : List Step) : Type 0 where
  earlier : List Bool
  known : Truths set earlier
  number : length earlier ≡ i
  whole : truths w earlier left ≡ truths w [] steps

-- the words `rest` are those of the steps from number i on, and these come to what all steps come to
record Rest (part counts : List ℕ) (h : CountPart part) (set i : ℕ) (rest : List ℕ) (left : List Step) : Type 0 where
  here : rest ≡ flat_map (step_words h.states) left
  in_range : StepsInRange h.states i left
  ahead : i + length left ≡ length h.steps
  known : (w : List ℕ) → Occurs counts w → TruthsSoFar h.steps w set i left

pub record StepsLeft (part counts : List ℕ) (steps set i : ℕ) (rest : List ℕ) : Type 0 where
  pub coded : CountPart part
  pub counted : steps ≡ get_or part 0 0
  left : (h : CountPart part) → (left : List Step) × Rest part counts h set i rest left

module _ {part : List ℕ} (h : CountPart part) where
  pub steps-there : 0 < length part
  unfolding count_words
  steps-there = omega (arith, ap length h.coded)

  steps_are : get_or part 0 0 ≡ length h.steps
  unfolding count_words
  steps_are = ap (λ (l : List ℕ). get_or l 0 0) h.coded

  first_step : (counts : List ℕ) → Rest part counts h 0 0 (drop 1 part) h.steps
  unfolding count_words has
  first_step counts = record {
    here = ap (drop 1) h.coded;
    in_range = h.in_range.steps;
    ahead = omega arith;
    known = λ w o. record { earlier = []; known = record { fits = lit< tt; same = none_stands.same }; number = refl; whole = refl };
  }

  -- the step in hand, and what its truth makes of the rest
  module _ {counts : List ℕ} {set i : ℕ} {rest : List ℕ} {s : Step} {ss : List Step} (t : Rest part counts h set i rest (s ∷ ss)) where
    first_of : StepFirst rest
    unfolding flat_map
    first_of = record {
      states = h.states;
      number = i;
      step = s;
      rest = flat_map (step_words h.states) ss;
      few_states = h.few_states;
      in_range = t.in_range.0;
      coded = t.here;
    }

    others_of : {next : List ℕ} {r : ℕ} (b : Bool) → StepSays rest counts set next b → r ≡ mask 64 (λ j. bit set j || (b && eqb j i))
        → Rest part counts h r (i + 1) next ss
    unfolding flat_map truths first_of
    others_of b says er = record {
      here = says.left first_of;
      in_range = rw (add-one i) t.in_range.1;
      ahead = omega (arith, t.ahead);
      known = λ w o.
          let k = t.known w o in
          record {
            earlier = k.earlier ++ (b ∷ []);
            known = one_truth b k.known k.number (omega (arith, t.ahead, h.in_range.few_steps)) er;
            number = omega (arith, length-append k.earlier (b ∷ []), k.number);
            whole = rw (says.says first_of k.earlier k.known w o) k.whole;
          };
    }

-- ---- what the loop keeps

pub no_step : {part counts : List ℕ} {steps : ℕ} → CountPart part → steps ≡ get_or part 0 0
    → StepsLeft part counts steps 0 0 (take (length part - 1) (drop 1 part))
no_step {part} {counts} h e = rw (slice-rest 1 part) (record { coded = h; counted = e; left = λ h. (h.steps, first_step h counts) })

module _ {part counts rest : List ℕ} {steps set i : ℕ} (left : StepsLeft part counts steps set i rest) where
  pub few_steps : (1 ≤ steps) × (steps ≤ 32)
  few_steps = rw (left.counted, steps_are left.coded) (left.coded.in_range.some_steps, left.coded.in_range.few_steps)

  some-step : i < steps → (h : CountPart part) → (s : Step) × (ss : List Step) × Rest part counts h set i rest (s ∷ ss)
  some-step l h = go (left.left h)
    where
      go : (left : List Step) × Rest part counts h set i rest left → (s : Step) × (ss : List Step) × Rest part counts h set i rest (s ∷ ss)
      go ([], t) = absurd (omega (arith, t.ahead, left.counted, steps_are h))
      go (s ∷ ss, t) = (s, ss, t)

  pub step-here : i < steps → StepFirst rest
  step-here l = first_of left.coded (some-step l left.coded).2

  pub one_step : {next : List ℕ} {r : ℕ} (b : Bool) → i < steps → StepSays rest counts set next b
      → r ≡ mask 64 (λ j. bit set j || (b && eqb j i)) → StepsLeft part counts steps r (i + 1) next
  one_step b l says er = record {
    coded = left.coded;
    counted = left.counted;
    left = λ h. let (s, ss, t) = some-step l h in (ss, others_of h t b says er);
  }

  pub all-steps : steps ≤ i → {b : Bool} → b ≡ bit set (steps - 1) → CountSays part counts b
  unfolding fits_count truths
  all-steps l {b} eb = record { fitting = λ h w o. go h w o (left.left h) }
    where
      go : (h : CountPart part) (w : List ℕ) → Occurs counts w → (left : List Step) × Rest part counts h set i rest left
          → b ≡ fits_count (some h.steps) w
      go h w o ([], t) = let k = t.known w o in rw (eb, k.known.same (steps - 1), left.counted ∙ steps_are h, k.whole)
      go h w o (s ∷ ss, t) = absurd (omega (arith, t.ahead, left.counted, steps_are h))
