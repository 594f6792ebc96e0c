-- `put_swapped` meets its contract: the words before the final states, these complemented, and the words after them.
use native.Mathlib.Omega.{arith}
use Prim.Native.Nat.{ℕ}
use lib.ListN.{length-take}
use borrow.Author.Rules.{rules}
use Rattle.model.proofs.PassedLaws.{few_words}
use Rattle.page.proofs.PageLaws.{then, as_words, filled}
use Rattle.join_sheets.proofs.SheetWords.{swapped-words_in}
use Rattle.join_sheets.proofs.put_swapped.Goals as goal

pub slice_bounds-copy-end : goal.slice_bounds-copy-end
slice_bounds-copy-end c = omega (arith, few_words c.requires, length-take {A = ℕ} 2 c.args.sheet.now)

pub slice_bounds-copy-count : goal.slice_bounds-copy-count
slice_bounds-copy-count c = omega (arith, few_words c.requires)

pub slice_bounds-copy-start : goal.slice_bounds-copy-start
slice_bounds-copy-start c = omega (arith, few_words c.requires)

pub returns : goal.returns
returns c =
    let swapped = swapped-words_in c.requires c.set_at.ensures c.at.ensures c.complement-finals.ensures in
    let h = as_words swapped (then c.copy.ensures (then c.put_set.ensures c.copy-2.ensures)) in
    search (filled, h, h.same, rules)
