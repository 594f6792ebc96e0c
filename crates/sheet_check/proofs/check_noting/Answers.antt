-- `check_noting` meets its contract: the answer is by where the part of the words that may be a sheet is read to.
use mathlib.Core.Path.{refl}
use native.Mathlib.Omega.{arith}
use Rattle.std.proofs.lemmas.Result.{err_from_is_err_and}
use Rattle.model.specs.Answers.{said_refusal, said}
use Rattle.sheet_check.proofs.Ends.{ends_bad, ends_whole, ends_early, part_whole}
use Rattle.sheet_check.proofs.check_noting.Goals as goal

pub returns-in_err-whole : goal.returns-in_err-whole
unfolding said said_refusal
returns-in_err-whole c =
    let p = err_from_is_err_and c.from_residual.result c.from_residual.ensures.1 in
    record {
      answer = rw (p.1, p.2) (ends_bad c.args.sheet.now (omega arith) refl refl c.whole.ensures.end c.in_err-whole.was);
      places = part_whole (omega arith) (c.whole.ensures.places refl);
    }

pub returns-then-walk-n : goal.returns-then-walk-n
unfolding said
returns-then-walk-n c = record {
  answer = ends_whole c.args.sheet.now (omega arith) refl refl c.whole.ensures.end c.in_ok-whole.was c.if-walk-n.true;
  places = part_whole (omega arith) (c.whole.ensures.places refl);
}

pub returns : goal.returns
unfolding said said_refusal
returns c = record {
  answer = ends_early c.args.sheet.now (omega arith) refl refl c.whole.ensures.end c.in_ok-whole.was c.if-walk-n.false;
  places = part_whole (omega arith) (c.whole.ensures.places refl);
}
