-- `order_of` meets its contract.
use mathlib.Core.Path.{refl}
use Rattle.join_order.proofs.OrderWords.{order_end, order_found}
use borrow.Author.Rules.{rules}
use Rattle.join_order.proofs.order_of.Goals as goal

pub overflow_add-arcs : goal.overflow_add-arcs
overflow_add-arcs c = search (order_end c.requires, rules)

pub overflow_add-at : goal.overflow_add-at
overflow_add-at c = search (order_end c.requires, rules)

pub returns : goal.returns
returns c = λ p o h. order_found h c.at.ensures c.set_at.ensures c.field.ensures refl
