-- The limits of a joint sheet's rules: rules, positions, arcs, steps. That of words comes after all of these.
use Rattle.std.specs.Prelude.{◌≡◌, cond, ℕ, leb, length, Option, Some, None, Result}
use Rattle.std.specs.Result.{MatchResult}
use mathlib.Core.List.{List, flat_map}
use Rattle.model.specs.Lists.{every}
use Rattle.model.specs.Sheet.{Rule, rule_words}
use Rattle.model.specs.Compose.{positions_of, arcs_of, steps_of}
use Rattle.limits.specs.declared.Limit.{Limit}
use Rattle.limits.specs.declared.Limit.TheVariants as limits
use Rattle.limits.specs.Limits.{first_of}
use Rattle.join_limits.specs.declared.Tally.{Tally}

-- the first of the limits of positions, arcs and steps that some rule exceeds
unfoldable pub first_in : List Rule → Option Limit
first_in rs =
    first_of (every (λ r. leb (positions_of r) 64) rs) (every (λ r. leb (arcs_of r) 1024) rs) (every (λ r. leb (steps_of r) 32) rs)

-- the first of all four
unfoldable pub first_limit : List Rule → Option Limit
first_limit rs = cond (leb (length rs) 1024) (first_in rs) (Some limits.Rules)

-- how many rules there are, the first limit that one of them exceeds, and how many words they have over p states
pub record TallyOf (p : ℕ) (rs : List Rule) (t : Tally) : Type 0 where
  pub rules : t.rules ≡ length rs
  pub over : t.over ≡ first_in rs
  pub words : t.words ≡ length (flat_map (rule_words p) rs)

-- the first limit that the rules exceed; where they exceed none, their tally
pub record Within (p : ℕ) (rs : List Rule) (t : Tally) : Type 0 where
  pub none : first_limit rs ≡ None
  pub tally : TallyOf p rs t

abbrev pub LimitOf : ℕ → List Rule → Result Tally Limit → Type 0
LimitOf p rs r = MatchResult r (Within p rs) (λ l. first_limit rs ≡ Some l)
