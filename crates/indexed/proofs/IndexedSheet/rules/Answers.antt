-- `rules` meets its contract: the word that tells the number of rules.
use native.Mathlib.Omega.{arith}
use Rattle.model.proofs.PassedLaws.{rules-word, in_range, few_words}
use Rattle.indexed.proofs.IndexedSheet.rules.Goals as goal

pub bounds-self-5 : goal.bounds-self-5
bounds-self-5 c = omega (arith, few_words c.args.self.now.indexed.sheet)

pub returns-clause-is : goal.returns-clause-is
returns-clause-is c = rules-word c.args.self.now.indexed.sheet

pub returns-clause-few : goal.returns-clause-few
returns-clause-few c = let passes = c.args.self.now.indexed.sheet in omega (arith, rules-word passes, (in_range passes).few_rules)
