-- `start_tag` meets its contract.
use mathlib.Core.Path.{refl, sym, ap, ◌∙◌}
use native.Mathlib.Omega.{arith}
use mathlib.Core.List.{List}
use Prim.Native.Nat.{ℕ, ◌+◌}
use lib.ListN.{length, length-drop}
use lib.Seq.{length-take-le}
use Rattle.tags.proofs.ChainLaws.{told_tag, told_none}
use Rattle.read_runs.specs.Runs.{run, class_within}
use Rattle.read_runs.proofs.RunLaws.{run-most}
use Rattle.read_pass.proofs.Readings.{name-there, tag_too_deep, tag_too_many, tag_unknown, tag_listed, tag_opens}
use Rattle.read_form.proofs.ReadingLaws.{stays}
use Rattle.read_form.proofs.Reader.start_tag.Goals as goal

pub returns-then-self-ge-MOST_DEPTH : goal.returns-then-self-ge-MOST_DEPTH
returns-then-self-ge-MOST_DEPTH c = stays _ (tag_too_deep c.args.self.now.names.listing c.requires (omega arith))

pub returns-then-self-ge-MOST_NODES : goal.returns-then-self-ge-MOST_NODES
returns-then-self-ge-MOST_NODES c =
    stays _ (tag_too_many c.args.self.now.names.listing c.requires c.if-self-ge-MOST_DEPTH.false (omega arith))

pub slice_bounds-find-end : goal.slice_bounds-find-end
slice_bounds-find-end c =
    let n = c.name_length-bytes.ensures in
    sym (length-take-le _ c.rest-rest.result.now (omega (arith, n, run-most (class_within 1 3) c.rest-rest.result.now)))

pub returns-in_default : goal.returns-in_default
returns-in_default c =
    let rest = c.rest-rest.ensures in
    let bytes = c.name_length-bytes.ensures ∙ ap (run (class_within 1 3)) rest in
    let none = told_none _ (sym c.in_default.is ∙ c.find.ensures) in
    stays _ (tag_unknown c.args.self.now.names.listing c.requires c.if-self-ge-MOST_DEPTH.false c.if-self-ge-MOST_NODES.false _ 0 bytes
    (rw rest at (sym none)) refl)

pub packed-requires : goal.packed-requires
packed-requires c =
    let rest = c.rest-rest.ensures in
    let bytes = c.name_length-bytes.ensures ∙ ap (run (class_within 1 3)) rest in
    let found = told_tag _ _ (sym c.in-Some.is ∙ c.find.ensures) in
    omega (
      arith,
      tag_listed c.args.self.now.names.listing c.requires c.if-self-ge-MOST_DEPTH.false c.if-self-ge-MOST_NODES.false _ _ bytes
          (rw rest at found.0) found.1,
      c.requires.reads.above,
    )

pub overflow_add-self : goal.overflow_add-self
overflow_add-self c =
    let start = name-there c.args.self.now.names.listing c.requires in
    let n = c.name_length-bytes.ensures in
    omega (
      arith,
      start,
      n,
      run-most (class_within 1 3) c.rest-rest.result.now,
      ap (λ (l : List ℕ). length l) c.rest-rest.ensures,
      length-drop (c.args.self.now.scan.at + 1) c.args.self.now.text.now,
      c.requires.reads.short,
    )

pub start_tag_end-requires : goal.start_tag_end-requires
start_tag_end-requires c =
    let rest = c.rest-rest.ensures in
    let bytes = c.name_length-bytes.ensures ∙ ap (run (class_within 1 3)) rest in
    let found = told_tag _ _ (sym c.in-Some.is ∙ c.find.ensures) in (
      omega arith,
      tag_opens c.args.self.now.names.listing c.requires c.if-self-ge-MOST_DEPTH.false c.if-self-ge-MOST_NODES.false _ _ bytes
          (rw rest at found.0) found.1 _ c.packed.ensures,
    )
