-- `join` meets its contract: each answer is that of the checks on the way, in their order.
use mathlib.Core.Path.{refl}
use Rattle.model.specs.Answers.{said, said_refusal}
use Rattle.std.proofs.lemmas.Result.{err_from_is_err_and}
use Rattle.compose.proofs.AnswerLaws.{sheet-indexed, first_refused, second-place, second-refused, tags-refused, join_written}
use Rattle.compose.proofs.AnswerLaws.{moved-back, passed-back}
use Rattle.compose.proofs.join.Goals as goal

pub returns-in_err-index : goal.returns-in_err-index
unfolding said said_refusal
returns-in_err-index c =
    let (answer, out) = first_refused _ c.args.second.now c.args.out.now c.index.ensures.answer c.in_err-index.was in
    let p = err_from_is_err_and c.from_residual.result c.from_residual.ensures.1 in
    record { answer = rw (p.1, p.2) answer; out = out }

pub map_err-requires : goal.map_err-requires
map_err-requires c = λ e is. second-place _ c.index-2.ensures.answer is

pub returns-in_err-map_err : goal.returns-in_err-map_err
unfolding said said_refusal
returns-in_err-map_err c =
    let (x, refused, moved) = moved-back c.index-2.result c.map_err.ensures.cases c.in_err-map_err.was in
    let (answer, out) =
    second-refused _ _ c.args.out.now c.index.ensures.answer c.in_ok-index.was _ c.index-2.ensures.answer refused moved in
    let p = err_from_is_err_and c.from_residual-in_err-map_err.result c.from_residual-in_err-map_err.ensures.1 in
    record { answer = rw (p.1, p.2) answer; out = out }

pub returns-then-at-tags : goal.returns-then-at-tags
unfolding said said_refusal
returns-then-at-tags c =
    let passed = passed-back c.index-2.result c.map_err.ensures.cases c.in_ok-map_err.was in
    let (answer, out) =
    tags-refused _ _ c.args.out.now c.index.ensures.answer c.in_ok-index.was c.index-2.ensures.answer passed
    c.at.ensures c.at-tags.ensures refl c.if-at-tags.true in
    record { answer = answer; out = out }

pub invariant_of-s : goal.invariant_of-s
invariant_of-s c = record { indexed = sheet-indexed _ _ c.index.ensures.answer c.index.ensures.index c.in_ok-index.was }

pub invariant_of-t : goal.invariant_of-t
invariant_of-t c =
    let passed = passed-back c.index-2.result c.map_err.ensures.cases c.in_ok-map_err.was in
    record { indexed = sheet-indexed _ _ c.index-2.ensures.answer c.index-2.ensures.index passed }

pub returns : goal.returns
unfolding said said_refusal
returns c =
    let passed = passed-back c.index-2.result c.map_err.ensures.cases c.in_ok-map_err.was in
    let (answer, out) =
    join_written _ _ c.args.out.now c.index.ensures.answer c.in_ok-index.was c.index-2.ensures.answer passed
    c.at.ensures c.at-tags.ensures c.if-at-tags.false c.join_indexed.ensures in
    record { answer = answer; out = out }
