-- What the children of a node come to, in the model's terms.
use Rattle.std.specs.Prelude.{Bool, List, ℕ, length, Result, Ok, Err}
use Rattle.model.specs.Answers.{Checked, passes, refuses}
use Rattle.model.specs.Tree.{Document, children}
use Rattle.model.specs.declared.Refusal.{Refusal}
use Rattle.model.specs.declared.Refusal.TheVariants.{Tree}

-- every child keeps the rules, or the first failing node is refused
unfoldable pub shape_of : Checked Document → Result (Unit {0}) Refusal
shape_of (passes d) = Ok tt
shape_of (refuses n i) = Err (Tree i)

-- the children from node i on, as `tree_of` reads them
abbrev pub shape_at : List ℕ → (g levels i end : ℕ) (after_text : Bool) → Result (Unit {0}) Refusal
shape_at t g levels i end after_text = shape_of (children t g (length t) levels i end after_text)
