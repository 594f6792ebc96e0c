-- `sheet_chains::chain` meets its contract: the index with the end of the last rule, then each rule from the last to the first.
use Rattle.sheet_chains.proofs.ChainLaws.{Chaining}
use Rattle.sheet_chains.proofs.chain.Given as goal

-- the rules from j on are in the index
abbrev pub invariant-loop-j : goal.invariant-loop-j
invariant-loop-j l = Chaining l.sheet l.fn.index l.index l.j
