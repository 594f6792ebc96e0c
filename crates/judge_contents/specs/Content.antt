-- Content: what a count part asks, if a rule has one, and what the rules of kind three give together.
use Rattle.std.specs.Prelude.{◌≡◌, Bool, true, ℕ, ◌^◌, ◌<◌, ⊤, Option, Some}
use Rattle.std.specs.Option.{MatchOption, is_some}
use Rattle.std.specs.Borrow.{Bor}
use mathlib.Core.List.{List, flat_map}
use Rattle.model.specs.Sheet.{Rule}
use Rattle.model.specs.Run.{at_content, content_targets, tries, unless_one}
use Rattle.judge_count.specs.Count.{Occurs, CountPart, CountSays}
use Rattle.judge_count.specs.declared.Counts.{Counts}
use Rattle.judge_rules.specs.Rules.{of_count}
use Rattle.judge_rules.specs.Found.{Finds}
use Rattle.judge_rules.specs.declared.targets.Found.{Found}

-- a count part, if there is one; and whether it fits, by the counts
abbrev pub CountIf : (part : Option (Bor (List ℕ))) → Type 0
CountIf part = MatchOption part ⊤ (λ words. CountPart words.now)

abbrev pub CountHolds : (part : Option (Bor (List ℕ))) (counts : Option Counts) (holds : Bool) → Type 0
CountHolds part counts holds =
    MatchOption part (holds ≡ true) (λ words. (c : Counts) → counts ≡ Some c → CountSays words.now c.each.now holds)

-- what the kind-three rules among R give for the child states w, all of them tried
abbrev pub FindsTargets : (R : List Rule) (w : List ℕ) → Found → Type 0
FindsTargets R w f = Finds (2 ^ 42) f (flat_map (at_content w) R) (tries R w)

-- what content with the child states w reaches
abbrev pub FindsContent : (R : List Rule) (w : List ℕ) → Found → Type 0
FindsContent R w f = Finds (2 ^ 42) f (content_targets R w) (unless_one w (tries R w))

-- the counts, if there are any, are how often each state occurs among w; there are some if a rule has a count part
pub record Counted (R : List Rule) (counts : Option Counts) (w : List ℕ) : Type 0 where
  pub each : (c : Counts) → counts ≡ Some c → Occurs c.each.now w
  pub known : 0 < of_count R → is_some counts ≡ true
