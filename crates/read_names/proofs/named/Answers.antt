-- `read_names::named` meets its contract.
use mathlib.Core.Path.{sym, ap, ◌∙◌}
use Rattle.chars.proofs.ClassLaws.{name_number}
use Rattle.read_runs.specs.Runs.{first_class}
use Rattle.read_runs.proofs.RunLaws.{named-short, named_else, named_so, byte_seen, end_seen}
use Rattle.read_names.proofs.named.Goals as goal

pub returns-then-bytes-name : goal.returns-then-bytes-name
returns-then-bytes-name c = sym (named-short c.args.bytes.now _ c.if-bytes-name.true)

pub returns-then-not-same_bytes : goal.returns-then-not-same_bytes
returns-then-not-same_bytes c =
    sym (named_else c.args.bytes.now _ c.requires (rw c.split_at.ensures.front at c.same_bytes.ensures) c.if-not-same_bytes.true)

pub returns-in-Some : goal.returns-in-Some
returns-in-Some c =
    let rest = c.split_at.ensures.back in
    let there = c.in-Some.ensures.item.3 in
    rw (c.in_name.ensures, name_number c.from.result)
    (sym (named_so c.args.bytes.now _ c.requires (rw c.split_at.ensures.front at c.same_bytes.ensures) c.if-not-same_bytes.false _
    (byte_seen _ 0 _ there.0 (there.1 0) c.from.ensures ∙ ap first_class rest)))

pub returns-in-None : goal.returns-in-None
returns-in-None c =
    let rest = c.split_at.ensures.back in
    sym (named_so c.args.bytes.now _ c.requires (rw c.split_at.ensures.front at c.same_bytes.ensures) c.if-not-same_bytes.false _
    (end_seen _ 0 c.in-None.ensures.item.3 ∙ ap first_class rest))
