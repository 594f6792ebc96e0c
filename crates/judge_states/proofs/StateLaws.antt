-- State words: of a set of states, all of them 0, and the verdict by the root's.
use mathlib.Core.Path.{◌≡◌, refl, sym, ap, ◌∙◌}
use mathlib.Core.Logic.{◌≢◌}
use mathlib.Core.Bool.{Bool, true, false, cond}
use mathlib.Core.List.Memᴰ
use mathlib.Core.List.{List, [], ◌∷◌}
use Prim.Native.Nat.{ℕ, zero, suc, ◌+◌, ◌-◌, ◌*◌, ◌/◌, ◌%◌, ◌≤◌, ◌<◌}
use native.Mathlib.Numerals.{add-one}
use native.Mathlib.Omega.{arith}
use lib.Dec.{eqb}
use lib.ListN.{length, get_or, drop, drop_of_length-le}
use Rattle.std.specs.Prelude.{None, Some}
use Rattle.model.specs.Lists.{has}
use Rattle.model.specs.Answers.{accepted, refused, stuck}
use Rattle.model.specs.Sheet.{W, bit, mask, members}
use Rattle.model.specs.Run.{last_zero, root_verdict}
use Rattle.model.specs.Index.{sheet_in, Passes}
use Rattle.model.proofs.PassedLaws.{in_range, final-words}
use Rattle.model.proofs.Tests.{or_right, eqb-false}
use Rattle.model.proofs.SetWords.{members_set}
use Rattle.bits.specs.Stands.{Stands}
use Rattle.bits.proofs.SetLaws.{words_stand}
use Rattle.bits.proofs.GistLaws.{gist-members}
use Rattle.judge_states.specs.States.{WordOf}

-- ---- the state word of a set

-- no member, one, and several
pub word_none : {targets : ℕ} → members 64 targets ≡ [] → WordOf targets (Some 0)
word_none e = record { says = λ l s. rw (gist-members s, e) refl }

-- the lowest member is a state
pub low_small : (targets : ℕ) {q : ℕ} {others : List ℕ} → members 64 targets ≡ q ∷ others → q < 64
low_small targets e = (members_set 64 targets).below _ (rw e (Memᴰ.head refl))

pub word_one : {targets q : ℕ} → members 64 targets ≡ q ∷ [] → WordOf targets (Some (q + 1))
word_one {q} e = record { says = λ l s. rw (gist-members s, e) (ap Some (add-one q), low_small _ e) }

pub word_several : {targets q r : ℕ} {others : List ℕ} → members 64 targets ≡ q ∷ r ∷ others → WordOf targets None
word_several e = record { says = λ l s. rw (gist-members s, e) refl }

-- ---- the verdict

zero_has : (st : List ℕ) (i : ℕ) → i < length st → get_or st i 0 ≡ 0 → has st 0 ≡ true
unfolding has
zero_has [] i h e = absurd (omega arith)
zero_has (s ∷ st) zero h e = rw e
zero_has (s ∷ st) (suc i) h e = or_right (eqb 0 s) (zero_has st i (omega arith) e)

last_zero_at : (st : List ℕ) (i : ℕ) → i < length st → get_or st i 0 ≡ 0 → has (drop (i + 1) st) 0 ≡ false → last_zero st ≡ i
unfolding last_zero
last_zero_at [] i h e n = absurd (omega arith)
last_zero_at (s ∷ st) zero h e n = rw n
last_zero_at (s ∷ st) (suc i) h e n =
    rw (zero_has st i (omega arith) e) (ap suc (last_zero_at st i (omega arith) e (rw (add-one i) (rw (add-one (suc i)) at n))))

-- no word from node i on is 0
zero_absent : (st : List ℕ) (i : ℕ) → ((k : ℕ) → i ≤ k → k < length st → get_or st k 0 ≢ 0) → has (drop i st) 0 ≡ false
unfolding has
zero_absent [] i others = rw (drop_of_length-le {A = ℕ} [] {i = i} (omega arith)) refl
zero_absent (s ∷ st) zero others =
    rw (eqb-false {m = 0} {n = s} (λ e. others 0 (omega arith) (omega arith) (sym e)))
    (zero_absent st 0 (λ k l h. others (suc k) (omega arith) (omega arith)))
zero_absent (s ∷ st) (suc i) others = zero_absent st i (λ k l h. others (suc k) (omega arith) (omega arith))

pub last_zero_found : (st : List ℕ) (i : ℕ) → i < length st → get_or st i 0 ≡ 0
    → ((k : ℕ) → i + 1 ≤ k → k < length st → get_or st k 0 ≢ 0) → i ≡ last_zero st
last_zero_found st i h e others = sym (last_zero_at st i h e (zero_absent st (i + 1) others))

-- the final states of a sheet that passes
pub final-stands : {s : List ℕ} → Passes s → {r : ℕ} → r ≡ get_or s 2 0 + get_or s 3 0 * W → Stands r (sheet_in s).final
final-stands {s} ok e =
    let n = mask (sheet_in s).states (has (sheet_in s).final) in
    let halves : n ≡ n % W + n / W * W = omega arith in
    words_stand (sheet_in s).states (sheet_in s).final (in_range ok).few_states (in_range ok).final (e ∙ final-words ok ∙ halves)

pub root_stuck : (final st : List ℕ) (m : ℕ) → 0 < length st → get_or st 0 0 ≡ 0 → {i : ℕ} → i ≡ last_zero st
    → stuck i m ≡ root_verdict final st m
unfolding root_verdict
root_stuck final [] m h z e = absurd (omega arith)
root_stuck final (zero ∷ st) m h z e = rw e
root_stuck final (suc q ∷ st) m h z e = absurd (omega arith)

by_final : (final st : List ℕ) (m : ℕ) → 0 < length st → get_or st 0 0 ≢ 0
    → cond (has final (get_or st 0 0 - 1)) (accepted (get_or st 0 0 - 1) m) (refused (get_or st 0 0 - 1) m) ≡ root_verdict final st m
unfolding root_verdict
by_final final [] m h d = absurd (omega arith)
by_final final (zero ∷ st) m h d = absurd (d refl)
by_final final (suc q ∷ st) m h d = let e : suc q - 1 ≡ q = omega arith in rw e

module _ (final st : List ℕ) (m : ℕ) (some : 0 < length st) (d : get_or st 0 0 ≢ 0) {set : ℕ} (stands : Stands set final) {b : Bool}
    (eb : b ≡ bit set (get_or st 0 0 - 1)) where
  pub root_accepted : b ≡ true → accepted (get_or st 0 0 - 1) m ≡ root_verdict final st m
  root_accepted e = rw (sym (stands.same _) ∙ sym eb ∙ e) at (by_final final st m some d)

  pub root-refused : b ≡ false → refused (get_or st 0 0 - 1) m ≡ root_verdict final st m
  root-refused e = rw (sym (stands.same _) ∙ sym eb ∙ e) at (by_final final st m some d)
