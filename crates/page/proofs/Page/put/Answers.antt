-- `put` meets its contract.
use borrow.Author.Tests.{lt-leb, le-leb}
use lib.Seq.{set_out}
use mathlib.Core.Path.{refl}
use Rattle.page.specs.Page.{adds, add}
use Rattle.page.proofs.Page.put.Goals as goal
use Rattle.page.proofs.Page.put.Goals.{then-self, else-self}

pub returns-then-self-gt-MOST_WORDS : goal.returns-then-self-gt-MOST_WORDS
unfolding adds add
returns-then-self-gt-MOST_WORDS c = record { same = refl; is = rw (lt-leb _ 16384 c.if-self-gt-MOST_WORDS.true) }

pub returns : goal.returns
unfolding adds add
returns c =
    let small = le-leb _ 16384 c.if-self-gt-MOST_WORDS.false in
    elim c.if-self.branch [
      | then-self w ↦ rw w.self-is (record { same = refl; is = rw small })
      | else-self w ↦ rw w.self-is (record { same = refl; is = rw (small, set_out _ _ _ w.if-self.false) })
    ]
