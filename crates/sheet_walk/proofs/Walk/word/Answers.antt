-- `word` meets its contract.
use mathlib.Core.Bool.{true, false}
use mathlib.Core.Path.{sym, ◌∙◌}
use native.Mathlib.Omega.{arith}
use Rattle.sheet_walk.proofs.WalkLaws.{word_good, word_unfit, word_missing, copied_some, copied_none}
use Rattle.sheet_walk.proofs.Walk.word.Goals.{in_default-via-in-Some+else-good, in_default-via-in_default}
use Rattle.sheet_walk.proofs.Walk.word.Goals as goal

pub returns-in-Some : goal.returns-in-Some
returns-in-Some g c = λ ok t.
    let l = c.get.ensures.lookup in
    let (there, is) = copied_some _ (sym c.in-Some.is ∙ c.copied.ensures) in
    let small = rw c.in-Some.is at c.copied.type_inv in
    word_good ok _ (sym there ∙ l.0) (is ∙ l.4 (omega arith) 0) (t _ true (omega (arith, small)) c.if-good.ensures)

pub returns : goal.returns
returns g c = λ ok t.
    let l = c.get.ensures.lookup in
    elim c.in_default.branch [
      | in_default-via-in-Some+else-good w ↦
          let (there, is) = copied_some _ (sym w.in-Some.is ∙ c.copied.ensures) in
          let small = rw w.in-Some.is at c.copied.type_inv in
          word_unfit ok _ (sym there ∙ l.0) (is ∙ l.4 (omega arith) 0) (t _ false (omega (arith, small)) w.if-good.ensures)
      | in_default-via-in_default w ↦ word_missing ok _ (sym (copied_none _ (sym w.in_default.is ∙ c.copied.ensures)) ∙ l.0)
    ]
