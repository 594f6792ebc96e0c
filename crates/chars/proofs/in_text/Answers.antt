-- `chars::in_text` meets its contract.
use borrow.Author.Rules.{rules}
use Rattle.chars.proofs.ByteTests.{text_test}
use Rattle.chars.proofs.in_text.Goals as goal

pub returns : goal.returns
returns c = text_test _ (search rules)
