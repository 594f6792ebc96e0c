-- `states` meets its contract: the word that tells the number of states.
use native.Mathlib.Omega.{arith}
use Rattle.model.proofs.PassedLaws.{states-word, few_words}
use Rattle.indexed.proofs.IndexedSheet.states.Goals as goal

pub bounds-self-1 : goal.bounds-self-1
bounds-self-1 c = omega (arith, few_words c.args.self.now.indexed.sheet)

pub returns : goal.returns
returns c = states-word c.args.self.now.indexed.sheet
