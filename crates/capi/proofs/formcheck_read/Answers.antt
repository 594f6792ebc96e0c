-- `formcheck_read` meets its contract: the answer of the call, in numbers.
use Rattle.capi_lent.proofs.LentLaws.{answer_handed}
use Rattle.capi.proofs.formcheck_read.Goals as goal

pub returns-clause-answer : goal.returns-clause-answer
returns-clause-answer c = answer_handed c.from.ensures c.read.ensures.answer c.args.answer.now c.hand_over.ensures.answer
