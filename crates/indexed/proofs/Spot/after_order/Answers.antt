-- `after_order` meets its contract: the order part, where there is one, stands between the map and the count part.
use native.Mathlib.Omega.{arith}
use Rattle.model.proofs.PassedLaws.{few_words}
use Rattle.indexed.proofs.RuleParts.{order_ends}
use Rattle.indexed.proofs.Spot.after_order.Goals as goal

pub overflow_add-result : goal.overflow_add-result
overflow_add-result c =
    let x = c.args.self.now in omega (arith, order_ends x c.in-Some.ensures c.order_length.ensures, (few_words x.sheet.indexed.sheet).1)

pub returns-in-Some : goal.returns-in-Some
returns-in-Some c = (order_ends c.args.self.now c.in-Some.ensures c.order_length.ensures).0
