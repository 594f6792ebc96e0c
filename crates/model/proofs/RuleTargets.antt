-- What a form reaches is the target of a rule: a state, where the sheet is in its ranges.
use mathlib.Core.List.{List}
use Prim.Native.Nat.{ℕ, ◌<◌}
use Rattle.model.specs.Lists.{◌∈◌}
use Rattle.model.specs.Tree.{Element, Document}
use Rattle.model.specs.Sheet.{Sheet, Rule, one, two, three, RuleInRange, InRange}
use Rattle.model.specs.Relation.{To, type_1, type_2, Each, no_more, more}
use Rattle.model.proofs.Pairs.{AllBelow}

-- the state that a rule ends with
abbrev pub target_of : Rule → ℕ
target_of (one k q) = q
target_of (two a c q) = q
target_of (three o φ q) = q

pub target_in_range : (p g : ℕ) (r : Rule) → RuleInRange p g r → target_of r < p
target_in_range p g (one k q) (_, _, h) = h
target_in_range p g (two a c q) (_, _, _, h) = h
target_in_range p g (three o φ q) (_, _, h) = h

module _ {R : List Rule} {p : ℕ} (targets : (r : Rule) → r ∈ R → target_of r < p) where
  pub reached-below : {e : Element} {q : ℕ} → To R e q → q < p
  reached-below (type_1 m) = targets _ m
  reached-below (type_2 h m) = targets _ m

  pub each_below : {d : Document} {w : List ℕ} → Each R d w → AllBelow p w
  each_below no_more = tt
  each_below (more h r) = (reached-below h, each_below r)

pub to_below : (s : Sheet) → InRange s → (e : Element) (q : ℕ) → To s.rules e q → q < s.states
to_below s ok e q h = reached-below (λ r m. target_in_range s.states s.tags r (ok.rules r m)) h
