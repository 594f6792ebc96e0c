-- The steps of a count part one after the other.
use mathlib.Core.Path.{◌≡◌, ap, ◌∙◌}
use mathlib.Core.List.{List, []}
use Prim.Native.Nat.{ℕ, ◌+◌, ◌-◌, ◌≤◌, ◌<◌}
use native.Mathlib.Omega.{arith}
use lib.ListN.{length, get_or, take, drop}
use Rattle.std.proofs.Props.{props}
use Rattle.std.proofs.Math.Logic.{∥∥₁_elim}
use Rattle.model.specs.Sheet.{Step, step_words, StepInRange}
use Rattle.model.specs.Spans.{CountAt}
use Rattle.model.proofs.PartLaws.{Next, next_part, none_left, words_part}
use Rattle.parts.specs.Lengths.{step_length}
use Rattle.join_count.specs.Counts.{StepsFrom, SomeSteps}
use Rattle.join_count.specs.declared.Steps.{Steps}
use Rattle.join_count.specs.Walks.{FirstStep}
use Rattle.join_count.proofs.StepWords.{step_end}
use Rattle.join_count.proofs.CountWords.{count-number, count-steps}

-- those of a count part
pub all_steps : {p a b n : ℕ} {s : List ℕ} {ss : List Step} → p ≤ 64 → CountAt p s a ss → b ≡ a + 1 → n ≡ get_or s a 0
    → StepsFrom p s b n ss
all_steps l h e f = record { few = l; stand = rw e (count-steps h); number = omega (arith, count-number h) }

module _ {p a n : ℕ} {s : List ℕ} {ss : List Step} (h : StepsFrom p s a n ss) where
  first : 0 < n → Next (step_words p) (StepInRange p 32) s n a 0 ss
  first l = next_part ss (record { stand = h.stand; number = omega (arith, h.number) }) l

  -- the first ends where the code tells, and the others begin there
  pub first_ends : 0 < n → a + step_length s a ≤ length s
  first_ends l = let v = first l in omega (arith, step_end h.few v.part v.here)

  pub first_step : {y : Steps} → 0 < n → y.words.now ≡ s → y.at ≡ a + step_length s a → y.left ≡ n - 1
      → FirstStep p ss (take (y.at - a) (drop a s)) y
  first_step {y} l ew ea el =
      let v = first l in
      let end = ea ∙ (step_end h.few v.part v.here).0 in
      let rest = v.further (end ∙ v.here.there.ends) in
      record {
        step = v.part;
        others = v.others;
        split = v.split;
        is = ap (λ (b : ℕ). take (b - a) (drop a s)) end ∙ words_part v.here.there;
        ranges = v.here.ranges;
        left = record { few = h.few; stand = rw ew rest.stand; number = omega (arith, rest.number, el) };
      }

  pub no_step : n ≡ 0 → ss ≡ []
  no_step e = none_left {n = n} {k = 0} ss (record { stand = h.stand; number = omega (arith, h.number) }) (omega (arith, e))

module _ {a n : ℕ} {s : List ℕ} (h : ∥ SomeSteps s a n ∥₁) (l : 0 < n) where
  pub some-end : a + step_length s a ≤ length s
  some-end = ∥∥₁_elim h (Prim.hlevel props) (λ (p, ss, t). first_ends t l)

  pub some-later : {b k : ℕ} → b ≡ a + step_length s a → k ≡ n - 1 → ∥ SomeSteps s b k ∥₁
  some-later {b} {k} e f = ∥∥₁_elim h (Prim.hlevel props) (λ (p, ss, t).
      let v = first t l in
      let rest = v.further (e ∙ (step_end t.few v.part v.here).0 ∙ v.here.there.ends) in
      ∣ (p, v.others, record { few = t.few; stand = rest.stand; number = omega (arith, rest.number, f) }) ∣₁)
