-- `put_joint` meets its contract: the words before the rules, then the rules.
use borrow.Author.Rules.{rules}
use Rattle.page.proofs.PageLaws.{then, as_words, filled}
use Rattle.join_sheets.proofs.SheetWords.{joint-words_in}
use Rattle.join_sheets.proofs.put_joint.Goals as goal

pub put_rules-requires : goal.put_rules-requires
put_rules-requires c = c.requires.few_positions

pub returns : goal.returns
returns c =
    let h = as_words (joint-words_in c.args.sheets.now c.requires) (then c.put_head.ensures c.put_rules.ensures) in
    search (filled, h, h.same, rules)
