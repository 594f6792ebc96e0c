-- `whole` meets its contract: the words before the rules one by one, then the rules.
use mathlib.Core.Path.{◌∙◌}
use Rattle.model.specs.Sheet.{sheet}
use Rattle.sheet_walk.proofs.WalkLaws.{handed_on, taken_on, word_taken, word_taken_on, stops, passes, word_passes, last}
use Rattle.sheet_check.proofs.Headers.{whole_noted, none_noted}
use Rattle.sheet_check.proofs.whole.Goals as goal

pub returns-in_err-between : goal.returns-in_err-between
unfolding sheet
returns-in_err-between c =
    let e = stops c.between.ensures _ c.in_err-between.was c.from_residual.ensures in
    record { end = e; places = none_noted e (handed_on c.from_residual.ensures) }

pub returns-in_err-p : goal.returns-in_err-p
unfolding sheet
returns-in_err-p c =
    let e = word_passes c.between.ensures _ c.in_ok-between.was
    (stops c.between-2.ensures _ c.in_err-p.was c.from_residual-in_err-p.ensures) in
    record { end = e; places = none_noted e (handed_on c.from_residual-in_err-p.ensures) }

pub returns-in_err-set_below : goal.returns-in_err-set_below
unfolding sheet
returns-in_err-set_below c =
    let e = word_passes c.between.ensures _ c.in_ok-between.was
    (word_passes c.between-2.ensures _ c.in_ok-p.was
    (stops c.set_below.ensures _ c.in_err-set_below.was c.from_residual-in_err-set_below.ensures)) in
    record { end = e; places = none_noted e (handed_on c.from_residual-in_err-set_below.ensures) }

pub returns-in_err-g : goal.returns-in_err-g
unfolding sheet
returns-in_err-g c =
    let e = word_passes c.between.ensures _ c.in_ok-between.was
    (word_passes c.between-2.ensures _ c.in_ok-p.was
    (passes c.set_below.ensures _ c.in_ok-set_below.was (λ l _ _.
    stops c.between-3.ensures _ c.in_err-g.was c.from_residual-in_err-g.ensures))) in
    record { end = e; places = none_noted e (handed_on c.from_residual-in_err-g.ensures) }

pub returns-in_err-n : goal.returns-in_err-n
unfolding sheet
returns-in_err-n c =
    let e = word_passes c.between.ensures _ c.in_ok-between.was
    (word_passes c.between-2.ensures _ c.in_ok-p.was
    (passes c.set_below.ensures _ c.in_ok-set_below.was (λ l _ _.
    word_passes c.between-3.ensures _ c.in_ok-g.was
    (stops c.between-4.ensures _ c.in_err-n.was c.from_residual-in_err-n.ensures)))) in
    record { end = e; places = none_noted e (handed_on c.from_residual-in_err-n.ensures) }

pub returns : goal.returns
unfolding sheet
returns c =
    let w₁ = c.between.ensures.words in
    let w₂ = c.between-2.ensures.words ∙ w₁ in
    let w₃ = c.set_below.ensures.words ∙ w₂ in
    let w₄ = c.between-3.ensures.words ∙ w₃ in
    let w₅ = c.between-4.ensures.words ∙ w₄ in
    let e₁ = word_taken c.between.ensures c.in_ok-between.was in
    let e₂ = word_taken_on c.between-2.ensures w₁ c.in_ok-p.was in
    let (final, e₃, _) = taken_on c.set_below.ensures w₂ c.in_ok-set_below.was in
    let e₄ = word_taken_on c.between-3.ensures w₃ c.in_ok-g.was in
    let e₅ = word_taken_on c.between-4.ensures w₄ c.in_ok-n.was in
    record {
      end = word_passes c.between.ensures _ c.in_ok-between.was
          (word_passes c.between-2.ensures _ c.in_ok-p.was
          (passes c.set_below.ensures _ c.in_ok-set_below.was (λ l _ _.
          word_passes c.between-3.ensures _ c.in_ok-g.was
          (word_passes c.between-4.ensures _ c.in_ok-n.was (last _ c.rules.ensures.end)))));
      places = λ start. whole_noted _ (rw start at e₁) e₂ e₃ e₄ e₅ (rw w₅ at c.rules.ensures.places);
    }
