-- `repeat` meets its contract.
use mathlib.Core.Path.{refl}
use Rattle.page.proofs.PageLaws.{fill_within, fill_nowhere}
use Rattle.page.proofs.Page.repeat.Goals as goal
use Rattle.page.proofs.Page.repeat.Goals.{then-self-top, else-self-top}

pub returns : goal.returns
returns c =
    elim c.if-self-top.branch [
      | then-self-top w ↦ rw w.self-is (record {
        same = refl;
        is = fill_within _ _ _ _ c.end-end.ensures c.min-top.ensures w.if-self-top.true (w.fill.ensures.after (λ y e. e));
      })
      | else-self-top w ↦ rw w.self-is (record {
        same = refl;
        is = fill_nowhere _ _ _ _ c.end-end.ensures c.min-top.ensures w.if-self-top.false;
      })
    ]
