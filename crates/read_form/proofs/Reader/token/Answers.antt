-- `token` meets its contract.
use mathlib.Core.Path.{sym, ◌∙◌}
use native.Mathlib.Omega.{arith}
use Rattle.chars.proofs.ClassLaws.{seen_is, seen_isnt, no_text, yes_text, end_no_text}
use Rattle.read_pass.proofs.Readings.{end_tag_there, tag_stuck, content_stuck, text_there, token_within, no_root, no_root_tag, at-start_tag}
use Rattle.read_form.proofs.ReadingLaws.{stays}
use Rattle.read_form.proofs.Reader.token.Goals as goal

pub past_white-seen-requires : goal.past_white-seen-requires
past_white-seen-requires c = (token_within c.requires).0

pub overflow_add-seen : goal.overflow_add-seen
overflow_add-seen c = omega (arith, c.past_white-seen.ensures.within, token_within c.requires)

pub start_tag-requires : goal.start_tag-requires
start_tag-requires c =
    let seen = c.past_white-seen.ensures in
    at-start_tag _ _ seen.is seen.class _ c.look-next.ensures.class (seen_is _ _ (sym c.eq.ensures ∙ c.if-eq.true))
    (seen_is _ _ (sym c.eq-then-eq.ensures ∙ c.if-eq-2.true)) c.requires

pub end_tag-requires : goal.end_tag-requires
end_tag-requires c =
    let seen = c.past_white-seen.ensures in
    let next = c.look-next.ensures.class in
    let (deep, r) = no_root_tag _ _ seen.is seen.class _ next (seen_isnt _ _ (sym c.eq-then-eq.ensures ∙ c.if-eq-2.false)) c.requires in (
      deep,
      end_tag_there r deep _ _ seen.is seen.class (seen_is _ _ (sym c.eq.ensures ∙ c.if-eq.true)) _ next
          (seen_is _ _ (sym c.eq-then-eq-2.ensures ∙ c.if-eq-3.true)),
    )

pub returns-then-eq : goal.returns-then-eq
returns-then-eq c =
    let seen = c.past_white-seen.ensures in
    let next = c.look-next.ensures in
    let no_letter = seen_isnt _ _ (sym c.eq-then-eq.ensures ∙ c.if-eq-2.false) in
    let (deep, r) = no_root_tag _ _ seen.is seen.class _ next.class no_letter c.requires in
    stays _ (rw (c.stopped.ensures, next.at) (tag_stuck r deep _ _ seen.is seen.class (seen_is _ _ (sym c.eq.ensures ∙ c.if-eq.true)) _
    next.class no_letter (seen_isnt _ _ (sym c.eq-then-eq-2.ensures ∙ c.if-eq-3.false))))

pub returns-in_default : goal.returns-in_default
returns-in_default c =
    let seen = c.past_white-seen.ensures in
    let (deep, r) = no_root _ _ seen.is seen.class (seen_isnt _ _ (sym c.eq.ensures ∙ c.if-eq.false)) c.requires in
    stays _ (rw c.stopped-in_default.ensures (content_stuck r deep _ _ seen.is seen.class (end_no_text c.in_default.is)))

pub returns-then-not-in_text : goal.returns-then-not-in_text
returns-then-not-in_text c =
    let seen = c.past_white-seen.ensures in
    let no_less = seen_isnt _ _ (sym c.eq.ensures ∙ c.if-eq.false) in
    let (deep, r) = no_root _ _ seen.is seen.class no_less c.requires in
    stays _ (rw c.stopped-then-not-in_text.ensures (content_stuck r deep _ _ seen.is seen.class
    (no_text c.in-Some.is no_less (sym c.in_text.ensures ∙ c.if-not-in_text.true))))

pub text_node-requires : goal.text_node-requires
text_node-requires c =
    let seen = c.past_white-seen.ensures in
    let no_less = seen_isnt _ _ (sym c.eq.ensures ∙ c.if-eq.false) in
    let (deep, r) = no_root _ _ seen.is seen.class no_less c.requires in
    let (there, solid) = text_there r deep _ _ seen.is seen.class no_less
    (yes_text c.in-Some.is no_less (sym c.in_text.ensures ∙ c.if-not-in_text.false)) in
    ((deep, there), solid)
