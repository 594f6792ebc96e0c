-- What `TreeWords::look` answers, in the model's terms.
use Rattle.std.specs.Prelude.{ℕ, Option, Some, None, Result, Ok, Err}
use Rattle.model.specs.Tree.{at_end, a_text, an_element, breaks}
use Rattle.model.specs.Tree as model
use Rattle.model.specs.declared.Refusal.{Refusal}
use Rattle.model.specs.declared.Refusal.TheVariants.{Tree}
use Rattle.tree_look.specs.declared.Seen.{Seen}
use Rattle.tree_look.specs.declared.Seen.TheVariants.{Text, Element}

-- at node i
abbrev pub looked : ℕ → model.Seen → Result (Option Seen) Refusal
looked i at_end = Ok None
looked i a_text = Ok (Some Text)
looked i (an_element next) = Ok (Some (Element next))
looked i breaks = Err (Tree i)
