-- The rules of a sheet one after the other: all of them, and those with one key.
use Rattle.std.specs.Prelude.{◌≡◌, ℕ, eqb, drop, Option}
use Rattle.std.specs.Option.{MatchOption}
use mathlib.Core.List.{List, [], ◌∷◌, flat_map}
use Rattle.model.specs.Lists.{only}
use Rattle.model.specs.Sheet.{Rule}
use Rattle.model.specs.Index.{rules_in, key}
use Rattle.indexed.specs.declared.Spot.{Spot}
use Rattle.indexed.specs.declared.Spots.{Spots}
use Rattle.indexed.specs.declared.Chain.{Chain}
use Rattle.indexed.specs.Rules.{rule_of}

-- those of some rules that have key k, in their order
abbrev pub with_key : ℕ → List Rule → List Rule
with_key k R = flat_map (λ r. only (eqb (key r) k) r) R

-- the rules that are left
abbrev pub all_left : Spots → List Rule
all_left s = drop s.next (rules_in s.sheet.words.now)

abbrev pub chain_left : Chain → List Rule
chain_left c = with_key c.key (drop c.next (rules_in c.sheet.words.now))

-- The next rule, if one is left, is the first of those that are left, and then the others are.
pub record AllNext (p : Spots) (x : Spot) (q : Spots) : Type 0 where
  pub rule : all_left p ≡ rule_of x ∷ all_left q
  pub of_sheet : x.sheet ≡ p.sheet
  pub sheet : q.sheet ≡ p.sheet

abbrev pub NextSpot : Spots → Option Spot → Spots → Type 0
NextSpot p r q = MatchOption r (all_left p ≡ []) (λ x. AllNext p x q)

pub record ChainNext (p : Chain) (x : Spot) (q : Chain) : Type 0 where
  pub rule : chain_left p ≡ rule_of x ∷ chain_left q
  pub has_key : key (rule_of x) ≡ p.key
  pub of_sheet : x.sheet ≡ p.sheet
  pub sheet : q.sheet ≡ p.sheet
  pub same_key : q.key ≡ p.key

abbrev pub NextAlike : Chain → Option Spot → Chain → Type 0
NextAlike p r q = MatchOption r (chain_left p ≡ []) (λ x. ChainNext p x q)
