-- `of` meets its contract: the first word of a count part is the number of its steps.
use mathlib.Core.Path.{refl}
use Rattle.join_count.proofs.CountWords.{count-there}
use Rattle.join_count.proofs.StepLaws.{all_steps}
use borrow.Author.Rules.{rules}
use Rattle.join_count.proofs.Steps.of.Goals as goal

pub overflow_add-result : goal.overflow_add-result
overflow_add-result c = let (_, _, some) = c.requires in search (count-there some.1, rules)

pub invariant_of-result : goal.invariant_of-result
invariant_of-result c = let (p, l, some) = c.requires in record { there = ∣ (p, some.0, all_steps l some.1 refl c.at.ensures) ∣₁ }

pub returns : goal.returns
returns c = λ p l ss h. all_steps l h refl c.at.ensures
