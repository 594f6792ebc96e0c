-- `reader::read` meets its contract.
use Rattle.std.proofs.lemmas.Result.{err_from_is_err_and}
use Rattle.reader.proofs.Answers.{checked-names, refused-names}
use Rattle.reader.proofs.read.Goals as goal

pub read_by-requires : goal.read_by-requires
read_by-requires c = checked-names _ c.args.text.now c.args.tree.now _ c.in_ok-check.ensures

pub returns-in_err-check : goal.returns-in_err-check
returns-in_err-check c =
    let p = err_from_is_err_and c.from_residual.result c.from_residual.ensures.1 in
    let both = refused-names _ _ c.args.tree.now _ c.in_err-check.ensures in
    rw (p.1, p.2) (record { answer = both.0; buffer = both.1 })
