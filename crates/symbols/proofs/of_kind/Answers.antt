-- `of_kind` meets its contract: each symbol computes to its kind.
use Rattle.model.specs.Tree.{symbol_of}
use Rattle.symbols.proofs.of_kind.Goals as goal

pub returns-in-Integer : goal.returns-in-Integer
unfolding symbol_of
returns-in-Integer c = rw c.in-Integer.is

pub returns-in-Other : goal.returns-in-Other
unfolding symbol_of
returns-in-Other c = rw c.in-Other.is
