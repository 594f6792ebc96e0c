-- `pair_set` meets its contract. The loop's invariant: the set has the rows below i.
use Rattle.sets.proofs.SetLaws.{Rows}
use Rattle.sets.proofs.pair_set.Given as goal

abbrev pub invariant-loop-i : goal.invariant-loop-i
invariant-loop-i l = Rows l.m l.n l.s l.t l.i l.set
