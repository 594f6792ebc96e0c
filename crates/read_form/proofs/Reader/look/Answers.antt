-- `look` meets its contract.
use Rattle.read_runs.proofs.RunLaws.{byte_seen, end_seen}
use Rattle.read_form.proofs.Reader.look.Goals as goal

pub returns-in_default-clause-class : goal.returns-in_default-clause-class
returns-in_default-clause-class c = end_seen c.args.self.now.text.now c.args.at c.in_default.ensures.lookup.3

pub returns-clause-class : goal.returns-clause-class
returns-clause-class c =
    let there = c.in-Some.ensures.lookup.3 in
    byte_seen c.args.self.now.text.now c.args.at _ there.0 (there.1 0) c.from.ensures
