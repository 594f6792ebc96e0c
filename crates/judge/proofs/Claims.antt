-- Demand 2 of the code: what the answer of `judge` and the states that it leaves say of the transition relation, by its promise
-- alone, where no earlier refusal stands: the sheet's words pass, the tree passes over its tags, and there is room for the states.
use mathlib.Core.Path.{◌≡◌}
use mathlib.Core.Logic.{◌↔◌}
use mathlib.Core.List.{List}
use Prim.Native.Nat.{ℕ, ◌*◌, ◌≤◌}
use lib.ListN.{length, take, drop, replicate}
use Rattle.model.specs.Lists.{◌∈◌}
use Rattle.model.specs.Answers.{Judgement, accepted, stuck, refusal, passes, said_judgement, looks_in}
use Rattle.model.specs.Tree.{Element, nodes, size, tree_of}
use Rattle.model.specs.Sheet.{Sheet, sheet_of}
use Rattle.model.specs.Relation.{AtMostOne, ReachesTwo, Single, GivesTwo, Takes, NoState, SomeState, StatesOf, Highest}
use Rattle.model.specs.Demands.{JudgePromised, Names}
use Rattle.model.proofs.Demand2.{verdict-names, verdict_accepts, verdict_two, verdict_two_at, verdict_stuck, verdict_stuck_at, states_say}
use Rattle.model.proofs.Demand2.{states_zeroed, states_past, looks_bound}
use Rattle.judge.proofs.judge.Reads as reads

-- The promise that is proved of the code gives `JudgePromised`, its three `ensures` on the words that it is lent: `reads.Post` is how the
-- `ensures` of `judge` read, of lifetimes κs, arguments a, answer r, and x, what the arguments hold at the end.
pub promised : (κs : _) (a : _) (r : Judgement) (x : _) → reads.Post κs a r x
    → JudgePromised a.0.now a.1.0.now a.1.1.0.now r x.1.1.0.now
promised κs a r x (answer, (buffer, bound)) = record { answer = answer; buffer = buffer; bound = bound }

module _ {sheet tree states left : List ℕ} {r : Judgement} (promise : JudgePromised sheet tree states r left) {s : Sheet} {e : Element}
    (sheet_ok : sheet_of sheet ≡ passes s) (tree_ok : tree_of s.tags tree ≡ passes e) (room : size e ≤ length states) where
  -- The answer names a state exactly when the transition relation takes the form's root to it and no node reaches two.
  pub names : (q : ℕ) → Names (said_judgement r) q ↔ Takes s e q
  names q = rw promise.answer (verdict-names sheet tree states sheet_ok tree_ok room q)

  -- It is accepted exactly when that state is final.
  pub accepts : (q : ℕ) → ((m : ℕ) × (said_judgement r ≡ accepted q m)) ↔ (Takes s e q × (q ∈ s.final))
  accepts q = rw promise.answer (verdict_accepts sheet tree states sheet_ok tree_ok room q)

  -- It is 23 exactly when some node reaches two …
  pub two : ((i : ℕ) × (said_judgement r ≡ refusal 23 i)) ↔ GivesTwo s e
  two = rw promise.answer (verdict_two sheet tree states sheet_ok tree_ok room)

  -- … at the highest-numbered such node.
  pub two_at : (i : ℕ) → (said_judgement r ≡ refusal 23 i) ↔ Highest (ReachesTwo s.rules) (AtMostOne s.rules) (nodes e) i
  two_at i = rw promise.answer (verdict_two_at sheet tree states sheet_ok tree_ok room i)

  -- Without such a node, none at the root is stuck …
  pub sticks : ((i m : ℕ) × (said_judgement r ≡ stuck i m)) ↔ (Single s.rules (nodes e) × NoState s.rules e)
  sticks = rw promise.answer (verdict_stuck sheet tree states sheet_ok tree_ok room)

  -- … with the highest-numbered node that reaches no state.
  pub sticks_at : (i m : ℕ) → said_judgement r ≡ stuck i m → Highest (NoState s.rules) (SomeState s.rules) (nodes e) i
  sticks_at i m = rw promise.answer (verdict_stuck_at sheet tree states sheet_ok tree_ok room i m)

  -- Each state word left is what the relation gives that node …
  pub states_left : Single s.rules (nodes e) → StatesOf s.rules (nodes e) (take (size e) left)
  states_left = rw promise.buffer (states_say sheet tree states sheet_ok tree_ok room)

  -- … 23 leaves zeros …
  pub zeros_left : GivesTwo s e → take (size e) left ≡ replicate (size e) 0
  zeros_left = rw promise.buffer (states_zeroed sheet tree states sheet_ok tree_ok room)

  -- … and the words past them are as they were.
  pub past_left : drop (size e) left ≡ drop (size e) states
  past_left = rw promise.buffer (states_past sheet tree states sheet_ok tree_ok room)

  -- The looks are at most 2 × n × R.
  pub looks : looks_in (said_judgement r) ≤ 2 * size e * length s.rules
  looks = rw promise.answer (looks_bound sheet tree states sheet_ok tree_ok room)
