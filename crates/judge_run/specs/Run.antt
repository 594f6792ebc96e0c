-- What a run is lent, and what it comes to.
use Rattle.std.specs.Prelude.{◌≡◌, List, ℕ, length, replicate, Ok, Err}
use Rattle.model.specs.Answers.{Said, Answer, passes}
use Rattle.model.specs.declared.Refusal.TheVariants.{TwoStates}
use Rattle.model.specs.Tree.{Element, size, tree_of}
use Rattle.model.specs.Run.{ran, two_at, items, run, verdict}
use Rattle.model.specs.Calls.{first_states}
use Rattle.model.specs.Index.{sheet_in, rules_in}

-- the words of a form of n nodes, over the tags of the sheet s
pub record Form (s tree : List ℕ) (n : ℕ) : Type 0 where
  pub form : Element
  pub as_tree : tree_of (sheet_in s).tags tree ≡ passes form
  pub nodes : size form ≡ n

-- The nodes have their state words; or one of them reaches two states, and then all state words are 0.
abbrev pub Ends : (s tree old : List ℕ) → Answer → (states : List ℕ) → Type 0
Ends s tree old (Ok looks) states = run (rules_in s) (items tree) ≡ ran states looks
Ends s tree old (Err r) states =
    (i : ℕ) × (r ≡ TwoStates i) × (run (rules_in s) (items tree) ≡ two_at i) × (states ≡ replicate (length old) 0)

-- what is said of a tree by a sheet, both of which pass, and the state words in place of `old`
abbrev pub verdict_on : (s tree : List ℕ) → Said
verdict_on s tree = verdict (sheet_in s).final (run (rules_in s) (items tree))

abbrev pub states_on : (s tree old : List ℕ) → List ℕ
states_on s tree old = first_states (length old) (run (rules_in s) (items tree))
