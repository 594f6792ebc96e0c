-- `end_tag` meets its contract.
use mathlib.Core.Path.{refl, sym, ◌∙◌}
use native.Mathlib.Omega.{arith}
use Rattle.chars.proofs.ClassLaws.{seen_same, seen_other}
use Rattle.read_pass.proofs.Readings.{top_inside, top_named, own_within, end_open_stuck, end_other, end_gap_stuck, end_closes}
use Rattle.read_form.proofs.ReadingLaws.{stays, closes_there, named_there}
use Rattle.read_form.proofs.Reader.end_tag.Goals as goal

pub bounds-self-innermost : goal.bounds-self-innermost
bounds-self-innermost c = let (deep, r) = c.requires in omega (arith, top_inside r deep, r.few)

pub named-requires : goal.named-requires
named-requires c = let (deep, r) = c.requires in top_named r deep c.args.self.now.names.listing _ c.name_of-name.ensures

pub returns-then-ne : goal.returns-then-ne
returns-then-ne c =
    let (deep, r) = c.requires in
    let first = c.look-first.ensures in
    stays _ (rw (c.stopped.ensures, first.at) (end_open_stuck r deep _ first.class (seen_other _ _ (sym c.ne.ensures ∙ c.if-ne.true))))

pub returns-then-not-named : goal.returns-then-not-named
returns-then-not-named c =
    let (deep, r) = c.requires in
    let first = c.look-first.ensures in
    stays _ (end_other r deep c.args.self.now.names.listing _ c.name_of-name.ensures
    (named_there _ c.rest.ensures c.named.ensures c.if-not-named.true)
    (sym first.class ∙ seen_same _ _ (sym c.ne.ensures ∙ c.if-ne.false)))

pub past_white-seen-requires : goal.past_white-seen-requires
past_white-seen-requires c =
    let (deep, r) = c.requires in
    let own = named_there _ c.rest.ensures c.named.ensures c.if-not-named.false in
    own_within r deep c.args.self.now.names.listing _ c.name_of-name.ensures own _ refl

pub returns-then-ne-2 : goal.returns-then-ne-2
returns-then-ne-2 c =
    let (deep, r) = c.requires in
    let own = named_there _ c.rest.ensures c.named.ensures c.if-not-named.false in
    let seen = c.past_white-seen.ensures in
    record {
      same = record { names = refl; text = refl; words = refl };
      is =
          rw c.stopped-then-ne-2.ensures (end_gap_stuck r deep c.args.self.now.names.listing _ c.name_of-name.ensures own _ refl _ _ seen.is
          seen.class (seen_other _ _ (sym c.ne-2.ensures ∙ c.if-ne-2.true)));
    }

pub overflow_add-seen : goal.overflow_add-seen
overflow_add-seen c = omega (arith, c.requires.1.short, c.past_white-seen.ensures.within)

pub close-requires : goal.close-requires
close-requires c = let (deep, r) = c.requires in (top_inside r deep, r.few, deep)

pub returns : goal.returns
returns c =
    let (deep, r) = c.requires in
    let own = named_there _ c.rest.ensures c.named.ensures c.if-not-named.false in
    let seen = c.past_white-seen.ensures in
    closes_there (record { names = refl; text = refl; words = refl }) c.close.ensures (omega (arith, seen.within))
    (end_closes r deep c.args.self.now.names.listing _ c.name_of-name.ensures own _ refl _ _ seen.is seen.class
    (seen_same _ _ (sym c.ne-2.ensures ∙ c.if-ne-2.false)))
