-- `root` meets its contract.
use mathlib.Core.Path.{refl, sym, ◌∙◌}
use native.Mathlib.Omega.{arith}
use Rattle.chars.proofs.ClassLaws.{seen_same, seen_other}
use Rattle.read_pass.proofs.Readings.{root_stuck, root_open_stuck, root_tag}
use Rattle.read_form.proofs.ReadingLaws.{here}
use Rattle.read_form.proofs.Reader.root.Goals as goal

pub returns-then-ne : goal.returns-then-ne
returns-then-ne c =
    let seen = c.past_white-seen.ensures in
    record {
      same = here _;
      is = rw c.stopped.ensures (root_stuck c.requires _ _ seen.is seen.class (seen_other _ _ (sym c.ne.ensures ∙ c.if-ne.true)));
    }

pub overflow_add-seen : goal.overflow_add-seen
overflow_add-seen c = omega (arith, c.past_white-seen.ensures.within, c.requires.short)

pub returns-then-ne-2 : goal.returns-then-ne-2
returns-then-ne-2 c =
    let seen = c.past_white-seen.ensures in
    let next = c.look-next.ensures in
    record {
      same = here _;
      is =
          rw (c.stopped-then-ne-2.ensures, next.at) (root_open_stuck c.requires _ _ seen.is seen.class
          (seen_same _ _ (sym c.ne.ensures ∙ c.if-ne.false)) _ next.class (seen_other _ _ (sym c.ne-2.ensures ∙ c.if-ne-2.true)));
    }

pub returns : goal.returns
returns c =
    let seen = c.past_white-seen.ensures in
    record {
      same = record { names = refl; text = refl; words = refl };
      is =
          root_tag c.requires _ _ seen.is seen.class (seen_same _ _ (sym c.ne.ensures ∙ c.if-ne.false)) _ c.look-next.ensures.class
          (seen_same _ _ (sym c.ne-2.ensures ∙ c.if-ne-2.false));
    }
