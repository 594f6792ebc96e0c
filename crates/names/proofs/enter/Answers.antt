-- `names::enter` meets its contract: its tests are those of the definition, and only the name's chain can hold the name.
use mathlib.Core.Path.{sym, ◌∙◌}
use native.Mathlib.Omega.{arith}
use Rattle.offsets.proofs.IndexLaws.{indexed_cut}
use Rattle.names.proofs.Checks.{told_unnamed, told_repeated, told_entered}
use Rattle.names.proofs.enter.Goals as goal

pub slice_bounds-named_line-count : goal.slice_bounds-named_line-count
slice_bounds-named_line-count c =
    let cut = indexed_cut _ _ c.requires.1.index _ c.requires.0 in
    omega (arith, cut.after, cut.within)

pub slice_bounds-named_line-start : goal.slice_bounds-named_line-start
slice_bounds-named_line-start c =
    let cut = indexed_cut _ _ c.requires.1.index _ c.requires.0 in
    omega (arith, cut.after, cut.within)

pub slice_bounds-named_line-end : goal.slice_bounds-named_line-end
slice_bounds-named_line-end c =
    let cut = indexed_cut _ _ c.requires.1.index _ c.requires.0 in
    omega (arith, cut.after, cut.within)

pub returns-then-not-named_line : goal.returns-then-not-named_line
returns-then-not-named_line c =
    let both = told_unnamed c.requires.1 c.requires.0 c.name_of-name.ensures c.named_line.ensures c.if-not-named_line.true
    in
    record { good = both.0; made = both.1 }

pub returns-then-is_some : goal.returns-then-is_some
returns-then-is_some c =
    let chain = c.bucket-chain.ensures in
    let both = told_repeated c.requires.1 c.requires.0 c.name_of-name.ensures c.named_line.ensures
    c.if-not-named_line.false chain.is chain.within c.find_chained-same.ensures (sym c.is_some.ensures ∙ c.if-is_some.true) in
    record { good = both.0; made = both.1 }

pub returns : goal.returns
returns c =
    let chain = c.bucket-chain.ensures in
    let both = told_entered c.requires.1 c.requires.0 c.name_of-name.ensures c.named_line.ensures c.if-not-named_line.false
    chain.is chain.within c.find_chained-same.ensures (sym c.is_some.ensures ∙ c.if-is_some.false) c.link.ensures in
    record { good = both.0; made = both.1 }
