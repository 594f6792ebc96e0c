-- The run on the nodes of a tree and its looks: document 01, "The run and its looks".
use Rattle.std.specs.Prelude.{Bool, true, false, cond, ◌&&◌, ℕ, zero, suc, ◌+◌, ◌-◌, eqb, ltb}
use mathlib.Core.List.{List, [], ◌∷◌, flat_map}
use Rattle.std.proofs.Math.Option.{Option, none, some, map}
use Rattle.model.specs.Lists.{has, only}
use Rattle.model.specs.Answers.{Said, accepted, refused, stuck, refusal}
use Rattle.model.specs.Sheet.{Rule, one, two, three}
use Rattle.model.specs.Words.{fits_order, fits_count, reads}

-- ---- what rules give

-- a text of kind k: the target of a kind-one rule
unfoldable pub at_text : ℕ → Rule → List ℕ
at_text k (one j q) = only (eqb j k) q
at_text k (two a c q) = []
at_text k (three o c q) = []

-- content with the child states w: the target of a kind-three rule whose order and count parts they fit
unfoldable pub at_content : List ℕ → Rule → List ℕ
at_content w (one j q) = []
at_content w (two a c q) = []
at_content w (three o c q) = only (fits_order o w && fits_count c w) q

-- tag a, whose content reaches the states cs: the target of a kind-two rule with that tag and an inner state among them
unfoldable pub at_tag : ℕ → List ℕ → Rule → List ℕ
at_tag a cs (one j q) = []
at_tag a cs (two b c q) = only (eqb b a && has cs c) q
at_tag a cs (three o c q) = []

-- A text reaches the targets of its kind-one rules.
unfoldable pub text_targets : List Rule → ℕ → List ℕ
text_targets R k = flat_map (at_text k) R

-- Content of one child reaches that child's state, and no kind-three rule is tried. Other content, the empty one
-- included, reaches the target of every kind-three rule whose parts its child states fit.
unfoldable pub content_targets : List Rule → List ℕ → List ℕ
content_targets R [] = flat_map (at_content []) R
content_targets R (q ∷ []) = q ∷ []
content_targets R (q ∷ r ∷ w) = flat_map (at_content (q ∷ r ∷ w)) R

-- An element reaches the targets of the kind-two rules with its tag and an inner state that its content reaches.
-- If a child has no state, its parent has none.
unfoldable pub element_targets : List Rule → ℕ → Option (List ℕ) → List ℕ
element_targets R a none = []
element_targets R a (some w) = flat_map (at_tag a (content_targets R w)) R

-- ---- looks

-- how many rules are of a kind
unfoldable pub kind : Rule → ℕ
kind (one k q) = 1
kind (two a c q) = 2
kind (three o c q) = 3

unfoldable pub of_kind : ℕ → List Rule → ℕ
of_kind k [] = zero
of_kind k (r ∷ R) = cond (eqb (kind r) k) 1 0 + of_kind k R

-- one for each kind-three rule and one more for each child that rule reads
unfoldable pub looks_of : List ℕ → Rule → ℕ
looks_of w (one k q) = zero
looks_of w (two a c q) = zero
looks_of w (three o c q) = suc (reads o w)

unfoldable pub tries : List Rule → List ℕ → ℕ
tries [] w = zero
tries (r ∷ R) w = looks_of w r + tries R w

-- n, but nothing for exactly one child; n, but nothing where no state is reached
abbrev pub unless_one : List ℕ → ℕ → ℕ
unless_one [] n = n
unless_one (q ∷ []) n = zero
unless_one (q ∷ r ∷ w) n = n

abbrev pub unless_none : List ℕ → ℕ → ℕ
unless_none [] n = zero
unless_none (q ∷ l) n = n

-- For content whose children all have states and aren't exactly one, the tries; if the content reaches a state, one for
-- each kind-two rule.
unfoldable pub element_looks : List Rule → Option (List ℕ) → ℕ
element_looks R none = zero
element_looks R (some w) = unless_one w (tries R w) + unless_none (content_targets R w) (of_kind 2 R)

-- ---- one node

-- what is reached by a list of targets: no state, one, or two
pub data Reached : Type 0 where
  nothing : Reached
  just : ℕ → Reached
  several : Reached

-- one more target
abbrev pub if_same : Bool → ℕ → Reached
if_same true r = just r
if_same false r = several

unfoldable pub and_also : ℕ → Reached → Reached
and_also q nothing = just q
and_also q (just r) = if_same (eqb q r) r
and_also q several = several

unfoldable pub gist : List ℕ → Reached
gist [] = nothing
gist (q ∷ l) = and_also q (gist l)

-- a node as a run looks at it: its symbol and its size
pub record Item : Type 0 where
  pub symbol : ℕ
  pub size : ℕ

unfoldable pub items : List ℕ → List Item
items [] = []
items (a ∷ []) = []
items (a ∷ b ∷ []) = []
items (a ∷ b ∷ c ∷ []) = []
items (a ∷ b ∷ c ∷ d ∷ t) = record { symbol = a; size = b } ∷ items t

-- The state words of the children among the next n nodes. `inside` nodes more lie inside the last child and are passed over.
unfoldable pub child_words : (n inside : ℕ) → List Item → List ℕ → List ℕ
child_words zero inside xs st = []
child_words (suc n) inside [] st = []
child_words (suc n) inside (x ∷ xs) [] = []
child_words (suc n) zero (x ∷ xs) (s ∷ st) = s ∷ child_words n (x.size - 1) xs st
child_words (suc n) (suc k) (x ∷ xs) (s ∷ st) = child_words n k xs st

-- the child states of state words (state + 1, or 0), where every child has one
unfoldable pub child_states : List ℕ → Option (List ℕ)
child_states [] = some []
child_states (zero ∷ ws) = none
child_states (suc q ∷ ws) = map (λ w. q ∷ w) (child_states ws)

-- ---- the run

-- the nodes judged so far have their state words and looks; or a node among them reaches two states
pub data Ran : Type 0 where
  ran : (states : List ℕ) (looks : ℕ) → Ran
  two_at : (node : ℕ) → Ran

-- a node in front of those judged so far, which reaches some states with some looks: state + 1 or 0
abbrev pub put : Reached → ℕ → List ℕ → ℕ → Ran
put nothing looks st m = ran (zero ∷ st) (looks + m)
put (just q) looks st m = ran (suc q ∷ st) (looks + m)
put several looks st m = two_at zero

-- one look for each kind-one rule at a text
unfoldable pub judge_text : List Rule → ℕ → List ℕ → ℕ → Ran
judge_text R k st m = put (gist (text_targets R k)) (of_kind 1 R) st m

unfoldable pub judge_element : List Rule → ℕ → Option (List ℕ) → List ℕ → ℕ → Ran
judge_element R a w st m = put (gist (element_targets R a w)) (element_looks R w) st m

unfoldable pub judge_node : List Rule → Item → List Item → Ran → Ran
judge_node R x xs (ran st m) =
    cond (ltb 64 x.symbol) (judge_text R (x.symbol - 64) st m)
    (judge_element R x.symbol (child_states (child_words (x.size - 1) 0 xs st)) st m)
judge_node R x xs (two_at i) = two_at (suc i)

-- Nodes are taken from the last to node 0.
unfoldable pub run : List Rule → List Item → Ran
run R [] = ran [] zero
run R (x ∷ xs) = judge_node R x xs (run R xs)

-- ---- the verdict

-- where the last 0 stands: the highest-numbered node without a state
abbrev pub next_if : Bool → ℕ → ℕ
next_if true n = suc n
next_if false n = zero

unfoldable pub last_zero : List ℕ → ℕ
last_zero [] = zero
last_zero (s ∷ st) = next_if (has st 0) (last_zero st)

-- Accepted or refused, with root state and looks, or stuck, with the highest-numbered node without a state and the looks.
unfoldable pub root_verdict : List ℕ → List ℕ → ℕ → Said
root_verdict final [] m = stuck zero m
root_verdict final (zero ∷ st) m = stuck (last_zero (zero ∷ st)) m
root_verdict final (suc q ∷ st) m = cond (has final q) (accepted q m) (refused q m)

-- 23: a node reaches two states; the highest-numbered one
unfoldable pub verdict : List ℕ → Ran → Said
verdict final (ran st m) = root_verdict final st m
verdict final (two_at i) = refusal 23 i
