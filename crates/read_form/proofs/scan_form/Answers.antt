-- `read_form::scan_form` meets its contract.
use Rattle.tags.proofs.TableLaws.{empty_unchained}
use Rattle.read_pass.proofs.Readings.{first-there}
use Rattle.read_form.proofs.scan_form.Goals as goal

pub chain-requires : goal.chain-requires
chain-requires c = empty_unchained c.new-table.ensures

pub form-requires : goal.form-requires
form-requires c =
    let begun = c.new-reading.ensures in
    let bounds = c.requires.text_len_bound in
    rw (begun.names, begun.text, begun.words, begun.scan) (first-there _ _ _ bounds.0 bounds.1)
