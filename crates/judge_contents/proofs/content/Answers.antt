-- `judge_contents::content` meets its contract: with a count part the occurrences are counted, and without one they are not looked at.
use borrow.Author.Rules.{rules}
use Rattle.judge_count.proofs.SumLaws.{few_counted}
use Rattle.judge_contents.proofs.ContentLaws.{several_found}
use Rattle.judge_contents.proofs.content.Goals as goal

pub returns-then-book-eq0 : goal.returns-then-book-eq0
returns-then-book-eq0 c = search (several_found, rules)

pub returns : goal.returns
returns c = search (several_found, rules)

pub invariant_of-element-2 : goal.invariant_of-element-2
invariant_of-element-2 c = record { few = few_counted c.occurrences.ensures }
