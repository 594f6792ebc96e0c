-- How a walk goes on: what the contracts of the check's functions say.
use Rattle.std.specs.Prelude.{◌≡◌, Bool, ℕ, ◌<◌, Result, Ok, Err}
use Rattle.sheet_walk.specs.declared.Bad.{Bad}
use Rattle.sheet_walk.specs.declared.Walk.{Walk}
use Rattle.model.specs.Lists.{has}
use Rattle.model.specs.Sheet.{W, Got, got, bad, Reader, mask, set_below}

-- what a method gives, and the index where the walk then is; a refusal says nothing of that index
unfoldable pub of_method : {B : Type 0} → Result B Bad → ℕ → Got B
of_method (Ok b) at = got b at
of_method (Err b) at = bad b.0

-- what a reader gets, with what is made of the value
unfoldable pub of_reader : {A B : Type 0} → (A → B) → Got A → Got B
of_reader value (got a n) = got (value a) n
of_reader value (bad k) = bad k

-- A method goes from one index of the words to another, as a reader does, and gives what is made of the value that this reads.
pub record Goes {A B : Type 0} (value : A → B) (r : Reader A) (x : Walk) (result : Result B Bad) (y : Walk) : Type 0 where
  pub words : y.words.now ≡ x.words.now
  pub gives : of_method result y.at ≡ of_reader value (r x.words.now x.at)

-- it gives nothing
abbrev pub GoesPast : {A : Type 0} → Reader A → Walk → Result (Unit {0}) Bad → Walk → Type 0
GoesPast r = Goes (λ a. tt) r

-- it gives the word
abbrev pub GivesWord : Reader ℕ → Walk → Result ℕ Bad → Walk → Type 0
GivesWord r = Goes (λ w. w) r

-- it gives the set of numbers below k as the number whose bits are its members
abbrev pub GivesSet : ℕ → Walk → Result ℕ Bad → Walk → Type 0
GivesSet k = Goes (λ l. mask k (has l)) (set_below k)

-- code that is called on a word makes the test `ok` of it
abbrev pub Tests : (ℕ → Bool → Type 0) → (ℕ → Bool) → Type 0
Tests called ok = (w : ℕ) (b : Bool) → w < W → called w b → b ≡ ok w
