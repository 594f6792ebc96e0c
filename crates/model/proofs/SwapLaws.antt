-- The swapped sheet: in its ranges, as many words, the same states reached; it accepts what the sheet takes to a state that is not final.
use mathlib.Core.Path.{◌≡◌, refl, sym, ◌∙◌, subst}
use mathlib.Core.Logic.Iff
use mathlib.Core.Logic.{◌↔◌}
use mathlib.Core.Bool.{not, false≢true}
use Prim.Native.Nat.{ℕ, ◌≤◌, ◌<◌}
use lib.ListN.{length}
use Rattle.model.specs.Lists.{◌∈◌, has}
use Rattle.model.specs.Tree.{Element}
use Rattle.model.specs.Sheet.{Sheet, set_words, sheet_words, InRange}
use Rattle.model.specs.Relation.{Takes, Accepts}
use Rattle.model.specs.Compose.{swapped}
use Rattle.model.proofs.Tests.{not_yes, yes_not}
use Rattle.model.proofs.ListLaws.{∈-has, asc_filter, has_no, ∈_filter}
use Rattle.model.proofs.RuleTargets.{to_below}

-- as many words, and every range kept
pub swapped-words : (s : Sheet) → length (sheet_words (swapped s)) ≡ length (sheet_words s)
unfolding swapped sheet_words set_words
swapped-words s = refl

pub swapped_in_range : (s : Sheet) → InRange s → InRange (swapped s)
unfolding swapped
swapped_in_range s ok = record {
  some_states = ok.some_states;
  few_states = ok.few_states;
  final = asc_filter (λ q. not (has s.final q)) s.states;
  some_tags = ok.some_tags;
  few_tags = ok.few_tags;
  few_rules = ok.few_rules;
  rules = ok.rules;
  few_words = subst (λ (k : ℕ). k ≤ 16384) (sym (swapped-words s)) ok.few_words;
}

-- the final states are the others, and the states reached the same
pub swapped-final : (s : Sheet) (q : ℕ) → (q ∈ (swapped s).final) ↔ ((q < s.states) × (q ∈ s.final → ⊥))
unfolding swapped
swapped-final s q =
    let e = ∈_filter (λ q. not (has s.final q)) s.states q in
    (λ m. ((e.0 m).0, λ i. false≢true (sym (yes_not _ (e.0 m).1) ∙ ∈-has i)), λ (h, apart). e.1 (h, not_yes (has_no apart)))

pub swapped-takes : (s : Sheet) (e : Element) (q : ℕ) → Takes (swapped s) e q ↔ Takes s e q
unfolding swapped
swapped-takes s e q = Iff.rfl

pub swapped_accepts : (s : Sheet) → InRange s → (e : Element) → Accepts (swapped s) e ↔ ((q : ℕ) × Takes s e q × (q ∈ s.final → ⊥))
swapped_accepts s ok e = (
  λ (q, h, m). (q, (swapped-takes s e q).0 h, ((swapped-final s q).0 m).1),
  λ (q, h, apart). (q, (swapped-takes s e q).1 h, (swapped-final s q).1 (to_below s ok e q h.1, apart)),
)
