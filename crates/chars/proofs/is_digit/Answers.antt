-- `chars::is_digit` meets its contract.
use borrow.Author.Rules.{rules}
use Rattle.chars.proofs.ByteTests.{digit_test}
use Rattle.chars.proofs.is_digit.Goals as goal

pub returns : goal.returns
returns c = digit_test _ (search rules)
