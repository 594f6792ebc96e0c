-- Where a rule of a sheet is in the sheet's words, and the parts of a rule.
use Rattle.std.specs.Prelude.{◌≡◌, List, ℕ, ◌+◌, ◌-◌, ◌%◌, ◌^◌, ◌<◌, length, get_or}
use Rattle.std.proofs.Math.Option.{none}
use Rattle.model.specs.Sheet.{Rule, one, two, three}
use Rattle.model.specs.Spans.{Content}
use Rattle.model.specs.Index.{rules_in, nth, key}

-- rule k of the sheet with the words s
abbrev pub rule_in : List ℕ → ℕ → Rule
rule_in s k = nth (rules_in s) k

-- There is a rule k, and the index tells that it begins at a, and where the next begins, before which its target stands at t.
pub record SpotIn (s index : List ℕ) (k a t : ℕ) : Type 0 where
  pub number : k < length (rules_in s)
  pub begins : a ≡ get_or index (67 + k) 0 % 2 ^ 16
  pub ends : t ≡ get_or index (67 + (k + 1)) 0 % 2 ^ 16 - 1

-- Rule j, if there is one, has key k.
pub record HasKey (s : List ℕ) (j k : ℕ) : Type 0 where
  pub has_key : j < length (rules_in s) → key (rule_in s j) ≡ k

-- the parts of a rule: of a text or of a tag, a target alone
abbrev pub parts_of : Rule → Content
parts_of (one k q) = record { order = none; count = none; target = q }
parts_of (two g c q) = record { order = none; count = none; target = q }
parts_of (three o φ q) = record { order = o; count = φ; target = q }
