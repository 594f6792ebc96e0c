-- `look` meets its contract: each answer is the model's, by what the symbol says and the tests on the way.
use mathlib.Core.Path.{refl, ap}
use borrow.Author.Tests.{le-leb}
use Rattle.model.specs.Tree.{look}
use Rattle.symbols.proofs.MeaningLaws.{means}
use Rattle.tree_look.specs.Looked.{looked}
use Rattle.tree_look.proofs.LookLaws.{text_looked, tag_looked, nothing_looked}
use Rattle.tree_look.proofs.TreeWords.look.Goals as goal

pub returns-then-end-i : goal.returns-then-end-i
unfolding look
returns-then-end-i c = rw (le-leb _ _ c.if-end-i.true)

pub returns-in-Text : goal.returns-in-Text
returns-in-Text c =
    ap (looked c.args.i) (text_looked _ _ _ _ _ _ c.if-end-i.false refl (means c.from.ensures c.in-Text.is) c.if-size-after_text.true)

pub returns-in-Tag : goal.returns-in-Tag
returns-in-Tag c = ap (looked c.args.i) (tag_looked _ _ _ _ _ _ c.if-end-i.false refl (means c.from.ensures c.in-Tag.is)
    (rw c.is_tag.ensures at c.if-is_tag-fits.true))

pub returns-in_default : goal.returns-in_default
returns-in_default c =
    ap (looked c.args.i) (text_looked _ _ _ _ _ _ c.if-end-i.false refl (means c.from.ensures c.in-Text.is) c.if-size-after_text.false)

pub returns-in_default-2 : goal.returns-in_default-2
returns-in_default-2 c = ap (looked c.args.i) (tag_looked _ _ _ _ _ _ c.if-end-i.false refl (means c.from.ensures c.in-Tag.is)
    (rw c.is_tag.ensures at c.if-is_tag-fits.false))

pub returns-in_default-3 : goal.returns-in_default-3
returns-in_default-3 c =
    ap (looked c.args.i) (nothing_looked _ _ _ _ _ _ c.if-end-i.false refl (means c.from.ensures c.in_default.is))
