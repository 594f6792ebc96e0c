-- `put_text` meets its contract.
use Rattle.write_nodes.specs.Nodes.{span_of}
use Rattle.write_nodes.proofs.SourceLaws.{source_part}
use Rattle.write_bytes.proofs.Form.put_text.Goals as goal

pub returns : goal.returns
returns c = rw (source_part _ (span_of c.args.node)) at c.put.ensures
