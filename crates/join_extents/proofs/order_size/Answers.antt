-- `order_size` meets its contract: the words of an order part tell its positions and arcs.
use Rattle.join_extents.proofs.ExtentLaws.{order-there, order_none}
use Rattle.join_extents.proofs.order_size.Goals as goal

pub returns-in_err-part : goal.returns-in_err-part
returns-in_err-part c =
    let (is, small) = order_none c.args.spot.now c.in_err-part.ensures in
    rw c.from_residual.ensures (record { is = is; small = small })

pub returns : goal.returns
returns c =
    let (is, small) = order-there c.args.spot.now c.in_ok-part.ensures c.at.ensures c.field.ensures in
    record { is = is; small = small }
