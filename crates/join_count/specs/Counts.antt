-- Count parts among the words of the two sheets, and what is written of them.
use Rattle.std.specs.Prelude.{◌≡◌, ℕ, ◌≤◌, length}
use mathlib.Core.List.{List, map}
use Rattle.model.specs.Sheet.{Step, count_words}
use Rattle.model.specs.Compose.{of_pairs, lift_step}
use Rattle.model.specs.Spans.{StepsAt, CountAt}
use Rattle.join_pairs.specs.declared.Half.{Half}
use Rattle.join_pairs.specs.declared.Sizes.{Sizes}
use Rattle.join_pairs.specs.declared.Both.{Both}
use Rattle.indexed.specs.declared.Part.{Part}
use Rattle.join_pairs.specs.Sides.{side_of, sizes_of, own_states, pairs_of}
use Rattle.join_count.specs.Sums.{joint_steps}

-- a part is a count part over p states
abbrev pub SomeCount : ℕ → Part → Type 0
SomeCount p x = (ss : List Step) × CountAt p x.words.now x.at ss

-- over as many states as a sheet may have
abbrev pub SomeCountPart : Part → Type 0
SomeCountPart x = (p : ℕ) × (p ≤ 64) × SomeCount p x

-- n steps over p states stand one after another in the words s from index a on
pub record StepsFrom (p : ℕ) (s : List ℕ) (a n : ℕ) (ss : List Step) : Type 0 where
  pub few : p ≤ 64
  pub stand : StepsAt p s a ss
  pub number : length ss ≡ n

abbrev pub SomeSteps : List ℕ → (a n : ℕ) → Type 0
SomeSteps s a n = (p : ℕ) × (ss : List Step) × StepsFrom p s a n ss

-- these are the steps of a count part
abbrev pub StepsOf : Part → List ℕ → (a n : ℕ) → Type 0
StepsOf x s a n = (p : ℕ) → p ≤ 64 → (ss : List Step) → CountAt p x.words.now x.at ss → StepsFrom p s a n ss

-- what is written of a count part, and of two count parts
abbrev pub LiftsCount : Half → Part → (List ℕ → Type 0) → Type 0
LiftsCount h x Written =
    (ss : List Step) → CountAt (own_states h) x.words.now x.at ss
    → Written (count_words (pairs_of h) (map (lift_step (side_of h.side) (sizes_of h.sizes) 0) ss))

abbrev pub JoinsCounts : Sizes → Both Part → (List ℕ → Type 0) → Type 0
JoinsCounts n x Written =
    (ss ts : List Step) → CountAt n.s x.s.words.now x.s.at ss → CountAt n.t x.t.words.now x.t.at ts
    → Written (count_words (of_pairs (sizes_of n)) (joint_steps (sizes_of n) ss ts))
