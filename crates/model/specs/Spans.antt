-- Where the parts of a sheet stand among words.
use Rattle.std.specs.Prelude.{◌≡◌, Bool, true, false, cond, ◌||◌, ℕ, ◌+◌, eqb, length, drop}
use mathlib.Core.List.{List, [], ◌++◌, flat_map}
use Rattle.std.proofs.Math.Option.{Option, none, some}
use Rattle.model.specs.Lists.{◌∈◌}
use Rattle.model.specs.Sheet.{Order, Coefficient, Step, Rule, three, order_words, sum_words, step_words, count_words, rule_words}
use Rattle.model.specs.Sheet.{OrderInRange, SumInRange, StepInRange, CountInRange, RuleInRange}

-- the words ws stand in s from index a up to index b
pub record WordsAt (s : List ℕ) (a b : ℕ) (ws : List ℕ) : Type 0 where
  pub stands : drop a s ≡ ws ++ drop b s
  pub ends : b ≡ a + length ws

-- a part in range stands in the words s from index a on
pub record PartAt {A : Type 0} (words : A → List ℕ) (In : A → Type 0) (s : List ℕ) (a : ℕ) (x : A) : Type 0 where
  pub end : ℕ
  pub there : WordsAt s a end (words x)
  pub ranges : In x

-- parts one after another
abbrev pub PartsAt : {A : Type 0} → (A → List ℕ) → (A → Type 0) → List ℕ → ℕ → List A → Type 0
PartsAt {A} words In = PartAt (flat_map words) (λ xs. (x : A) → x ∈ xs → In x)

-- an order part, a sum and a count part over p states
abbrev pub OrderAt : ℕ → List ℕ → ℕ → Order → Type 0
OrderAt p = PartAt order_words (OrderInRange p)

abbrev pub SumAt : ℕ → List ℕ → ℕ → List Coefficient → Type 0
SumAt p = PartAt (sum_words p) (SumInRange p)

abbrev pub CountAt : ℕ → List ℕ → ℕ → List Step → Type 0
CountAt p = PartAt (count_words p) (CountInRange p)

-- steps, each of which refers to steps below 32 if any
abbrev pub StepAt : ℕ → List ℕ → ℕ → Step → Type 0
StepAt p = PartAt (step_words p) (StepInRange p 32)

abbrev pub StepsAt : ℕ → List ℕ → ℕ → List Step → Type 0
StepsAt p = PartsAt (step_words p) (StepInRange p 32)

-- a rule over p states; a sheet has at most 64 tags
abbrev pub RuleAt : ℕ → List ℕ → ℕ → Rule → Type 0
RuleAt p = PartAt (rule_words p) (RuleInRange p 64)

abbrev pub RulesAt : ℕ → List ℕ → ℕ → List Rule → Type 0
RulesAt p = PartsAt (rule_words p) (RuleInRange p 64)

-- ---- the parts of a content rule

pub record Content : Type 0 where
  pub order : Option Order
  pub count : Option (List Step)
  pub target : ℕ

abbrev pub content : Content → Rule
content x = three x.order x.count x.target

abbrev pub there_is : {A : Type 0} → Option A → Bool
there_is none = false
there_is (some a) = true

-- the map of a rule with an order part and a count part, or without
abbrev pub map_of : (ordered counted : Bool) → ℕ
map_of ordered counted = cond ordered (cond counted 56 40) (cond counted 48 32)

-- the rules that have an order part, and a count part, by their maps
abbrev pub ordered : ℕ → Bool
ordered m = eqb m 40 || eqb m 56

abbrev pub counted : ℕ → Bool
counted m = eqb m 48 || eqb m 56

-- the words of a part, if there is one
abbrev pub order_part : Option Order → List ℕ
order_part none = []
order_part (some o) = order_words o

abbrev pub count_part : ℕ → Option (List Step) → List ℕ
count_part p none = []
count_part p (some ss) = count_words p ss
