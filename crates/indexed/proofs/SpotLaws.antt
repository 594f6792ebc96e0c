-- Where the rule of a spot stands in its sheet's words.
use mathlib.Core.Path.{◌≡◌, refl, ap}
use mathlib.Core.List.{List}
use Prim.Native.Nat.{ℕ, ◌+◌, ◌-◌, ◌%◌, ◌^◌, ◌<◌}
use native.Mathlib.Omega.{arith}
use lib.ListN.{length, get_or}
use Rattle.model.specs.Sheet.{Rule, one, two, three, rule_words}
use Rattle.model.specs.Spans.{RuleAt}
use Rattle.model.specs.Index.{sheet_in, rules_in}
use Rattle.model.proofs.RuleWords.{content-words}
use Rattle.model.proofs.IndexLaws.{rule-here, rule-ends}
use Rattle.indexed.specs.declared.Spot.{Spot}
use Rattle.indexed.specs.Spots.{SpotIn}
use Rattle.indexed.specs.Rules.{rule_of}

some_words : (p : ℕ) (x : Rule) → 0 < length (rule_words p x)
unfolding rule_words
some_words p (one k q) = omega arith
some_words p (two g c q) = omega arith
some_words p (three o φ q) = omega (arith, ap length (content-words p o φ q))

-- the rule of a spot stands from its first word to its target
pub record Stands (x : Spot) : Type 0 where
  pub begins : RuleAt (sheet_in x.sheet.words.now).states x.sheet.words.now x.at (rule_of x)
  pub ends : x.target + 1 ≡ x.at + length (rule_words (sheet_in x.sheet.words.now).states (rule_of x))

pub stands : (x : Spot) → Stands x
stands x =
    let h = x.sheet.indexed in
    let k = x.spot in
    record {
      begins = rw k.begins (rule-here h k.number refl);
      ends = omega (arith, k.begins, k.ends, rule-ends h k.number refl refl, some_words (sheet_in x.sheet.words.now).states (rule_of x));
    }

-- the entry after ENTRIES + k, as the code reads it
pub spot-made : {s : List ℕ} (index : List ℕ) (k : ℕ) {v w a b t : ℕ} → k < length (rules_in s) → v ≡ get_or index (67 + k) 0 → w
    ≡ get_or index (68 + k) 0 → a ≡ v % 2 ^ 16 → b ≡ w % 2 ^ 16 → t ≡ b - 1 → SpotIn s index k a t
spot-made index k l ev ew ea eb et =
    let same : 68 + k ≡ 67 + (k + 1) = omega arith in
    record { number = l; begins = rw (ea, ev) refl; ends = rw (et, eb, ew, same) refl }
