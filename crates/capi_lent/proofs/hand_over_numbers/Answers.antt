-- `hand_over_numbers` meets its contract.
use Rattle.capi_lent.proofs.LentLaws.{room_for}
use Rattle.capi_lent.proofs.hand_over_numbers.Goals as goal

pub returns-clause-answer : goal.returns-clause-answer
returns-clause-answer c =
    rw (c.copy_from_slice.ensures.after, c.from.ensures)
    (room_for c.args.answer.now c.args.kind c.args.first c.args.second _ c.min-room.ensures)
