-- `lift_count` meets its contract.
use mathlib.Core.Path.{sym, ◌∙◌}
use Rattle.page.proofs.PageLaws.{then, as_words}
use Rattle.join_count.proofs.CountWords.{count-number, lifted_count-words}
use Rattle.join_count.proofs.lift_count.Goals as goal

pub returns : goal.returns
returns c = λ ss h.
    as_words (lifted_count-words _ _ ss (count-number h ∙ sym c.step_count.ensures)) (then c.put.ensures (c.put_steps.ensures ss h))
