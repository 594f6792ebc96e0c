-- `Book::tagged` meets its contract: content that reaches no state, and content that reaches some.
use borrow.Author.Rules.{rules}
use Rattle.judge_rules.proofs.TargetLaws.{tagged_unreached, tagged-reached}
use Rattle.judge_rules.proofs.numbers.Book.tagged.Goals as goal

pub returns-then-inner-eq0 : goal.returns-then-inner-eq0
returns-then-inner-eq0 c = search (tagged_unreached, rules)

pub returns : goal.returns
returns c = search (tagged-reached, rules)
