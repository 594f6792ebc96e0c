-- `of_row` meets its contract. The loop keeps: what is tallied, and what the pairs that are left make, is the whole row.
use mathlib.Core.Path.{◌∙◌, sym, ap}
use Rattle.model.specs.Compose.{Sizes}
use Rattle.join_limits.proofs.LimitLaws.{tally_done, pair-room, pair_more}
use Rattle.join_limits.proofs.Tally.of_row.Goals as goal

pub extent_at-own-requires : goal.extent_at-own-requires
extent_at-own-requires c = rw c.half.ensures (sym (ap (λ (n : Sizes). n.of_S) c.args.row.now.sized))

pub of_pair-requires-clause-own : goal.of_pair-requires-clause-own
of_pair-requires-clause-own c =
    let (_, _, rule, sizes, _) = c.loop-pair.invariant in
    let next = c.in-Some.ensures.steps in
    let own = rw c.half.ensures at c.extent_at-own.ensures.is in
    rw (next.rule ∙ rule, next.sizes ∙ sizes) own

pub with-tally-requires : goal.with-tally-requires
with-tally-requires c =
    let (_, _, _, same, left) = c.loop-pair.invariant in pair-room c.args.row.now same c.in-Some.ensures.steps left c.of_pair.ensures

pub loop-pair-preserved : goal.loop-pair-preserved
loop-pair-preserved c =
    let (_, _, rule, sizes, left) = c.loop-pair.invariant in
    let next = c.in-Some.ensures.steps in
    let more = c.with-tally.ensures in
    let rest = pair_more c.args.row.now sizes next left c.of_pair.ensures more.rules more.over more.words in
    (tt, tt, next.same_rule ∙ rule, next.same_sizes ∙ sizes, rest)

pub returns : goal.returns
returns c = let (_, _, _, _, left) = c.loop-pair.invariant in tally_done left c.in-None.ensures.steps
