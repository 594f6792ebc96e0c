-- `start_tag_end` meets its contract.
use mathlib.Core.Path.{refl, sym, ◌∙◌}
use native.Mathlib.Omega.{arith}
use Rattle.chars.proofs.ClassLaws.{seen_is, seen_isnt, seen_same, seen_other}
use Rattle.read_pass.proofs.Readings.{gap_ends, gap_stuck, slash_stuck, slash_ends, top_inside}
use Rattle.read_form.proofs.ReadingLaws.{here, stays, closes_there}
use Rattle.read_form.proofs.Reader.start_tag_end.Goals as goal

pub overflow_add-self : goal.overflow_add-self
overflow_add-self c = omega (arith, c.past_white-seen.ensures.within, c.requires.1.short)

pub returns-then-eq : goal.returns-then-eq
returns-then-eq c =
    let (deep, r) = c.requires in
    let seen = c.past_white-seen.ensures in
    record {
      same = record { names = refl; text = refl; words = refl };
      is = (omega (arith, seen.within), gap_ends r deep _ _ seen.is seen.class (seen_is _ _ (sym c.eq.ensures ∙ c.if-eq.true)));
    }

pub returns-then-ne : goal.returns-then-ne
returns-then-ne c =
    let (deep, r) = c.requires in
    let seen = c.past_white-seen.ensures in
    stays _ (rw c.stopped.ensures (gap_stuck r deep _ _ seen.is seen.class (seen_isnt _ _ (sym c.eq.ensures ∙ c.if-eq.false))
    (seen_other _ _ (sym c.ne.ensures ∙ c.if-ne.true))))

pub overflow_add-seen : goal.overflow_add-seen
overflow_add-seen c = omega (arith, c.past_white-seen.ensures.within, c.requires.1.short)

pub returns-then-ne-2 : goal.returns-then-ne-2
returns-then-ne-2 c =
    let (deep, r) = c.requires in
    let seen = c.past_white-seen.ensures in
    let last = c.look-last.ensures in
    stays _ (rw (c.stopped-then-ne-2.ensures, last.at) (slash_stuck r deep _ _ seen.is seen.class
    (seen_same _ _ (sym c.ne.ensures ∙ c.if-ne.false)) _ last.class (seen_other _ _ (sym c.ne-2.ensures ∙ c.if-ne-2.true))))

pub close-requires : goal.close-requires
close-requires c = let (deep, r) = c.requires in (top_inside r deep, r.few, deep)

pub returns : goal.returns
returns c =
    let (deep, r) = c.requires in
    let seen = c.past_white-seen.ensures in
    let last = c.look-last.ensures in
    closes_there (here _) c.close.ensures (omega (arith, seen.within)) (slash_ends r deep _ _ seen.is seen.class
    (seen_same _ _ (sym c.ne.ensures ∙ c.if-ne.false)) _ last.class (seen_same _ _ (sym c.ne-2.ensures ∙ c.if-ne-2.false)))
