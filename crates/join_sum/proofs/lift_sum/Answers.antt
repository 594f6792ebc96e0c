-- `lift_sum` meets its contract.
use Rattle.model.specs.Compose.{S, T}
use Rattle.page.proofs.PageLaws.{then, as_words}
use Rattle.join_sum.proofs.SumWords.{lifted_sum-words}
use Rattle.join_sum.proofs.lift_sum.Goals as goal

pub returns-in-S : goal.returns-in-S
returns-in-S c = rw c.in-S.is (λ cs h.
    as_words (lifted_sum-words S c.args.half.sizes.few h c.pair_set.ensures) (then c.put_set.ensures c.repeat_each.ensures))

pub returns-in-T : goal.returns-in-T
returns-in-T c = rw c.in-T.is (λ cs h.
    as_words (lifted_sum-words T c.args.half.sizes.few h c.pair_set-in-T.ensures) (then c.put_set-in-T.ensures c.repeat_all.ensures))
