-- `writer::write` meets its contract: each answer is what the model says, by the checks on the way.
use native.Mathlib.Omega.{arith}
use Rattle.std.proofs.lemmas.Result.{err_from_is_err_and}
use Rattle.model.proofs.Answered.{names-counted}
use Rattle.model.proofs.NameLaws.{few-names}
use Rattle.offsets.proofs.IndexLaws.{indexed}
use Rattle.writer.proofs.PassedLaws.{checks_passed}
use Rattle.writer.proofs.Outcomes.{says-names, says_text, says_tree}
use Rattle.writer.proofs.write.Goals as goal

pub returns-in_err-tags : goal.returns-in_err-tags
returns-in_err-tags c =
    let s = says-names _ _ _ _ c.check.ensures c.in_err-tags.was in
    let p = err_from_is_err_and c.from_residual.result c.from_residual.ensures.1 in
    record { answer = rw (p.1, p.2) s.0; buffer = s.1 }

pub returns-then-text-gt-MOST_BYTES : goal.returns-then-text-gt-MOST_BYTES
returns-then-text-gt-MOST_BYTES c =
    let named = names-counted _ c.check.ensures c.in_ok-tags.was in
    let s = says_text _ _ _ _ named c.if-text-gt-MOST_BYTES.true in
    record { answer = s.0; buffer = s.1 }

pub overflow_cast-tags : goal.overflow_cast-tags
overflow_cast-tags c = omega (arith, few-names _ _ (names-counted _ c.check.ensures c.in_ok-tags.was))

pub invariant_of-sources : goal.invariant_of-sources
invariant_of-sources c = record { indexed = indexed _ _ _ (omega arith) c.index.ensures.starts }

pub write_passed-requires : goal.write_passed-requires
write_passed-requires c = checks_passed c.check.ensures c.in_ok-tags.was c.if-text-gt-MOST_BYTES.false c.check-2.ensures c.in_ok-check.was

pub returns-in_err-check : goal.returns-in_err-check
returns-in_err-check c =
    let named = names-counted _ c.check.ensures c.in_ok-tags.was in
    let s = says_tree _ _ _ _ named c.if-text-gt-MOST_BYTES.false c.check-2.ensures c.in_err-check.was in
    let p = err_from_is_err_and c.from_residual-in_err-check.result c.from_residual-in_err-check.ensures.1 in
    record { answer = rw (p.1, p.2) s.0; buffer = s.1 }
