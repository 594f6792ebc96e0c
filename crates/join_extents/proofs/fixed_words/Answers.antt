-- `fixed_words` meets its contract.
use native.Mathlib.Omega.{arith}
use Rattle.join_extents.proofs.ExtentLaws.{fixed_text, fixed_tag, fixed_content}
use Rattle.join_extents.proofs.fixed_words.Goals as goal

pub returns-in-33-clause-is : goal.returns-in-33-clause-is
returns-in-33-clause-is c = fixed_text c.args.spot.now c.map.ensures c.in-33.is

pub returns-in-38-clause-is : goal.returns-in-38-clause-is
returns-in-38-clause-is c = fixed_tag c.args.spot.now c.map.ensures c.in-38.is

pub returns-in_default-clause-is : goal.returns-in_default-clause-is
returns-in_default-clause-is c = fixed_content c.args.spot.now c.map.ensures (omega arith) (omega arith)
