-- `read_names::chain` meets its contract: tag by tag.
use mathlib.Core.Path.{◌≡◌, ap, ◌∙◌}
use Prim.Native.Nat.{◌+◌, ◌-◌}
use native.Mathlib.Omega.{arith}
use Rattle.offsets.specs.Lines.{line_count}
use Rattle.tags.specs.Tables.{bucket}
use Rattle.tags.proofs.TagLaws.{name_is}
use Rattle.tags.proofs.TableLaws.{table_begun}
use Rattle.read_names.proofs.TagLaws.{with_tag}
use Rattle.read_names.proofs.chain.Goals as goal

pub loop-tag-init : goal.loop-tag-init
loop-tag-init c = (table_begun _ _ c.index-count.ensures.table c.requires, omega arith)

pub loop-tag-preserved : goal.loop-tag-preserved
loop-tag-preserved c =
    let made = c.loop-tag.invariant.0 in
    let own = c.name_of-name.ensures ∙ name_is _ _ _ made.index (omega arith) (omega arith) in
    let e : c.loop-tag.tag + 1 - 1 ≡ c.loop-tag.tag = omega arith in (
      rw e (with_tag made (omega arith) (omega arith) (c.bucket.ensures.is ∙ ap bucket own) c.bucket.ensures.within c.link.ensures),
      omega arith,
    )

pub returns : goal.returns
returns c =
    let e : line_count c.args.list.now ≡ c.loop-tag.tag - 1 = omega arith in
    rw e c.loop-tag.invariant.0

pub returns-2 : goal.returns-2
returns-2 c =
    let made = c.loop-tag.invariant.0 in
    let own = c.name_of-name.ensures ∙ name_is _ _ _ made.index (omega arith) (omega arith) in
    let e : line_count c.args.list.now ≡ c.loop-tag.tag = omega arith in
    rw e (with_tag made (omega arith) (omega arith) (c.bucket.ensures.is ∙ ap bucket own) c.bucket.ensures.within c.link.ensures)
