-- `sheet_count::coefficient_good` meets its contract.
use native.Mathlib.Omega.{arith}
use Rattle.sheet_walk.proofs.WordTests.{coefficient_test}
use Rattle.sheet_count.proofs.coefficient_good.Goals as goal

pub returns : goal.returns
returns c = coefficient_test c.args.w (omega arith)
