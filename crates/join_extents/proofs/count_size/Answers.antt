-- `count_size` meets its contract: the first word of a count part is the number of its steps.
use Rattle.join_extents.proofs.ExtentLaws.{count_given, count-there, count_none}
use Rattle.join_extents.proofs.count_size.Goals as goal

pub returns-in_err-part : goal.returns-in_err-part
returns-in_err-part c =
    let (is, small) = count_none c.args.spot.now c.args.half c.requires c.in_err-part.ensures in
    rw c.from_residual.ensures (record { is = is; small = small })

pub lifted_length-requires : goal.lifted_length-requires
lifted_length-requires c = count_given c.args.spot.now c.args.half c.requires c.in_ok-part.ensures

pub returns : goal.returns
returns c =
    let lifted = c.lifted_length.ensures in
    let (is, small) =
    count-there c.args.spot.now c.args.half c.requires c.in_ok-part.ensures c.at.ensures lifted.is lifted.small in
    record { is = is; small = small }
