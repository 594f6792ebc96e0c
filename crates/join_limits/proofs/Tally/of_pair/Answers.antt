-- `of_pair` meets its contract: the numbers of the joint rule are made of those of the two.
use mathlib.Core.Path.{refl, sym, ap}
use Rattle.model.specs.Compose.{Sizes}
use Rattle.join_limits.proofs.PairLaws.{plain_tallied, pair_tallied}
use Rattle.join_limits.proofs.Tally.of_pair.Goals as goal

pub extent_at-other-requires : goal.extent_at-other-requires
extent_at-other-requires c = rw c.half.ensures (sym (ap (λ (n : Sizes). n.of_T) c.args.pair.now.sized))

pub returns-then-fixed-gt-CONTENT_WORDS : goal.returns-then-fixed-gt-CONTENT_WORDS
returns-then-fixed-gt-CONTENT_WORDS c =
    plain_tallied c.args.pair.now c.fixed_words-fixed.ensures.is c.if-fixed-gt-CONTENT_WORDS.true refl refl refl

pub returns : goal.returns
returns c =
    let other = rw c.half.ensures at c.extent_at-other.ensures.is in
    pair_tallied c.args.pair.now c.joint-joint.ensures.is c.requires.own other
    c.fixed_words-fixed.ensures.is refl (rw (c.positions.ensures, c.arcs.ensures, c.steps.ensures) at c.first_over.ensures) c.words.ensures.is
