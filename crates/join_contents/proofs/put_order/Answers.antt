-- `put_order` meets its contract: one answer for each of the four cases.
use Rattle.page.specs.Page.{Writes}
use Rattle.page.proofs.PageLaws.{nothing}
use Rattle.join_contents.proofs.ContentLaws.{orders_pairable, orders_paired, order-S_lifted, order-T_lifted, no_orders}
use Rattle.join_contents.proofs.put_order.Goals as goal

pub pair_order-requires : goal.pair_order-requires
pair_order-requires c = orders_pairable c.args.rules.now c.requires c.in-Some-Some.ensures c.in-Some-Some.ensures'

pub returns-in-Some-Some : goal.returns-in-Some-Some
returns-in-Some-Some c =
    orders_paired c.args.rules.now (λ ws. Writes c.args.page.now ws c.pair_order.new.page) c.in-Some-Some.ensures c.in-Some-Some.ensures'
    c.pair_order.ensures

pub returns-in-Some-None : goal.returns-in-Some-None
returns-in-Some-None c =
    order-S_lifted c.args.rules.now (λ ws. Writes c.args.page.now ws c.lift_order.new.page) c.in-Some-None.ensures c.in-Some-None.ensures'
    (rw c.half.ensures at c.lift_order.ensures)

pub returns-in-None-Some : goal.returns-in-None-Some
returns-in-None-Some c =
    order-T_lifted c.args.rules.now (λ ws. Writes c.args.page.now ws c.lift_order-in-None-Some.new.page) c.in-None-Some.ensures
    c.in-None-Some.ensures' (rw c.half-in-None-Some.ensures at c.lift_order-in-None-Some.ensures)

pub returns-in-None-None : goal.returns-in-None-None
returns-in-None-None c =
    let page = c.args.page.now in
    no_orders c.args.rules.now (λ ws. Writes page ws page) c.in-None-None.ensures c.in-None-None.ensures' (nothing page)
