-- `sheet_chains::chain` meets its contract: the index with the end of the last rule, then each rule from the last to the first.
use mathlib.Core.Path.{refl, sym}
use native.Mathlib.Omega.{arith}
use lib.ListN.{length-set}
use lib.Seq.{length-take-le}
use Rattle.model.proofs.PassedLaws.{in_range, few_words}
use Rattle.sheet_chains.proofs.ChainLaws.{chaining_none, entry_fits, chaining_more, chaining_all}
use Rattle.sheet_chains.proofs.chain.Goals as goal

pub bounds-sheet-5 : goal.bounds-sheet-5
bounds-sheet-5 c = omega (arith, few_words c.requires.places.sheet)

pub slice_bounds-fill-end-2 : goal.slice_bounds-fill-end-2
slice_bounds-fill-end-2 c = sym (length-take-le 67 c.args.index.now (omega (arith, c.requires.room)))

pub overflow_cast-index : goal.overflow_cast-index
overflow_cast-index c = omega (arith, few_words c.requires.places.sheet)

pub bounds-index-n : goal.bounds-index-n
bounds-index-n c =
    let begun = chaining_none c.requires.places.sheet (c.fill.ensures.after (λ y e. e)) refl c.requires.room in
    omega (arith, begun.few, simp length-set at begun.long, in_range c.requires.places.sheet)

pub loop-j-init : goal.loop-j-init
loop-j-init c = chaining_none c.requires.places.sheet (c.fill.ensures.after (λ y e. e)) refl c.requires.room

pub bounds-places-j : goal.bounds-places-j
bounds-places-j c = omega (arith, c.loop-j.invariant.few, in_range c.requires.places.sheet, c.requires.places.room)

pub put_entry-requires : goal.put_entry-requires
put_entry-requires c =
    let ok = c.requires.places.sheet in
    let h = c.loop-j.invariant in
    entry_fits ok h (omega arith) c.requires.room
    (c.requires.places.noted _ (omega (arith, h.few)) (omega (arith, h.few, in_range ok, c.requires.places.room)))

pub loop-j-preserved : goal.loop-j-preserved
loop-j-preserved c =
    let ok = c.requires.places.sheet in
    let h = c.loop-j.invariant in
    rw c.put_entry.ensures (chaining_more ok h (omega arith) c.requires.room
    (c.requires.places.noted _ (omega (arith, h.few)) (omega (arith, h.few, in_range ok, c.requires.places.room))))

pub returns : goal.returns
returns c = chaining_all c.requires.places.sheet c.loop-j.invariant (omega arith)
