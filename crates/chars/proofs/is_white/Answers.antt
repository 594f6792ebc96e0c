-- `chars::is_white` meets its contract.
use borrow.Author.Rules.{rules}
use Rattle.chars.proofs.ByteTests.{white_test}
use Rattle.chars.proofs.is_white.Goals as goal

pub returns : goal.returns
returns c = white_test _ (search rules)
