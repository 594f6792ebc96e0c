-- Demand 3: joint and swapped sheets, as the words that join and swap write.
use mathlib.Core.Path.{◌≡◌, sym, ap, ◌∙◌, subst}
use mathlib.Core.Logic.{◌↔◌}
use mathlib.Core.List.{List}
use Prim.Native.Nat.{ℕ, ◌*◌, ◌≤◌, ◌<◌}
use native.Mathlib.Nat.{le_trans, mul-le-mul_left}
use lib.Dec.{eqb}
use lib.ListN.{length}
use borrow.Author.Tests.{eqb-true}
use Rattle.model.specs.Lists.{◌∈◌}
use Rattle.model.specs.Answers.{accepted, refusal, Checked, passes, refuses, room_for, looks_in}
use Rattle.model.specs.Tree.{Element, nodes, size}
use Rattle.model.specs.Sheet.{Sheet, sheet_of, sheet_words, InRange}
use Rattle.model.specs.Relation.{Single, GivesTwo, Takes, Accepts}
use Rattle.model.specs.Compose.{pair, swapped, joint, within_limits}
use Rattle.model.specs.Calls.{swap, in_second, joined, join}
use Rattle.model.specs.Demands.{Reading, by_rules, by_run, Sheet_on, TakesTo, AcceptsIt, NoTwo}
use Rattle.model.proofs.Tests.{Told, yea, nay, told, same, eqb_no}
use Rattle.model.proofs.CheckLaws.{refuses≢passes, passes_inj, bind_inv, then_inv, required}
use Rattle.model.proofs.SheetCode.{sheet_passes}
use Rattle.model.proofs.RuleTargets.{to_below}
use Rattle.model.proofs.Product.{joint_single, joint-takes, joint_accepts}
use Rattle.model.proofs.JoinRange.{joint_in_range, joint-rule-count}
use Rattle.model.proofs.SwapLaws.{swapped_in_range, swapped_accepts}
use Rattle.model.proofs.Demand2.{verdict-names, verdict_accepts, verdict_two, looks_bound}

-- ---- the two readings are one

module _ {tree : List ℕ} {e : Element} where
  takes-read : (u : Reading) (S : Sheet_on tree e) (q : ℕ) → TakesTo u S q ↔ Takes S.sheet e q
  takes-read by_rules S q = (λ t. t, λ t. t)
  takes-read by_run S q = rw S.returned (verdict-names S.words tree S.states S.passed S.over S.room q)

  accepts_read : (u : Reading) (S : Sheet_on tree e) → AcceptsIt u S ↔ Accepts S.sheet e
  accepts_read by_rules S = (λ t. t, λ t. t)
  accepts_read by_run S = (
    λ t. let (q, m, i) = t in let (h, f) = (accepted_is q).0 (m, i) in (q, h, f),
    λ t. let (q, h, f) = t in let (m, i) = (accepted_is q).1 (h, f) in (q, m, i),
  )
    where
      accepted_is : (q : ℕ) → ((m : ℕ) × (S.verdict ≡ accepted q m)) ↔ (Takes S.sheet e q × (q ∈ S.sheet.final))
      accepted_is = rw S.returned (verdict_accepts S.words tree S.states S.passed S.over S.room)

  two_read : (u : Reading) (S : Sheet_on tree e) → NoTwo u S ↔ (GivesTwo S.sheet e → ⊥)
  two_read by_rules S = (λ t. t, λ t. t)
  two_read by_run S = (λ t d. let (i, h) = two_is.1 d in t i h, λ t i h. t (two_is.0 (i, h)))
    where
      two_is : ((i : ℕ) × (S.verdict ≡ refusal 23 i)) ↔ GivesTwo S.sheet e
      two_is = rw S.returned (verdict_two S.words tree S.states S.passed S.over S.room)

-- where no node reaches two states, each reaches at most one
single : (s : Sheet) (e : Element) → (GivesTwo s e → ⊥) → Single s.rules (nodes e)
single s e none f m q r h k = go (told (eqb q r))
  where
    go : Told (eqb q r) → q ≡ r
    go (yea y) = same q r y
    go (nay n) = absurd (none (f, m, (q, r, h, k, eqb_no n)))

none_two : (s : Sheet) (e : Element) → Single s.rules (nodes e) → GivesTwo s e → ⊥
none_two s e u (f, m, two) = let (q, r, h, k, d) = two in d (u f m q r h k)

-- ---- what join and swap write

in_second_inv : {A : Type 0} (c : Checked A) {a : A} → in_second c ≡ passes a → c ≡ passes a
unfolding in_second
in_second_inv (passes b) h = h
in_second_inv (refuses n i) h = absurd (refuses≢passes h)

-- Two sheets that join within the limits are both read, and their tags agree.
joined_inv : (first second : List ℕ) {j : Sheet} → joined first second ≡ passes j
    → (s t : Sheet) × (sheet_of first ≡ passes s) × (sheet_of second ≡ passes t) × (s.tags ≡ t.tags) ×
    (within_limits (joint s t) ≡ passes tt) × (joint s t ≡ j)
unfolding joined
joined_inv first second h =
    let (s, hs, h₁) = bind_inv (sheet_of first) _ h in
    let (t, ht, h₂) = bind_inv (in_second (sheet_of second)) _ h₁ in
    let (y, h₃) = (required (eqb s.tags t.tags) 20 t.tags _).0 h₂ in
    let (u, hu, h₄) = then_inv (within_limits (joint s t)) _ h₃ in
    (s, t, hs, in_second_inv (sheet_of second) ht, eqb-true _ _ y, hu, passes_inj h₄)

join_inv : (first second : List ℕ) (room : ℕ) {ws : List ℕ} → join first second room ≡ passes ws → (j : Sheet) ×
    (joined first second ≡ passes j) × (sheet_words j ≡ ws)
unfolding join
join_inv first second room h =
    let (j, hj, h₁) = bind_inv (joined first second) _ h in
    let (u, hu, h₂) = then_inv (room_for (length (sheet_words j)) room) _ h₁ in
    (j, hj, passes_inj h₂)

-- The words that a join writes pass the sheet check, and are read as the joint sheet.
pub join_passes : (first second : List ℕ)
    (room : ℕ) {ws : List ℕ} {s t : Sheet} → sheet_of first ≡ passes s → sheet_of second ≡ passes t → join first second room ≡ passes ws
    → (ws ≡ sheet_words (joint s t)) × (sheet_of ws ≡ passes (joint s t))
join_passes first second room {ws} {s} {t} fs ft h =
    let (j, hj, hw) = join_inv first second room h in
    let (s', t', hs, ht, tags, limits, hj') = joined_inv first second hj in
    let es : s' ≡ s = passes_inj (sym hs ∙ fs) in
    let et : t' ≡ t = passes_inj (sym ht ∙ ft) in
    let ej : joint s' t' ≡ joint s t = cc in
    let range : InRange (joint s' t') = joint_in_range s' t' ((sheet_passes first s').0 hs).1 ((sheet_passes second t').0 ht).1 limits in
    let e : ws ≡ sheet_words (joint s t) = sym hw ∙ ap sheet_words (sym hj' ∙ ej) in
    (e, (sheet_passes ws (joint s t)).1 (e, subst InRange ej range))

-- The words that a swap writes pass, and are read as the swapped sheet.
pub swap_passes : (words : List ℕ) (room : ℕ) {ws : List ℕ} {s : Sheet} → sheet_of words ≡ passes s → swap words room ≡ passes ws →
    (ws ≡ sheet_words (swapped s)) × (sheet_of ws ≡ passes (swapped s))
unfolding swap
swap_passes words room {ws} {s} hs h =
    let (s', hs', h₁) = bind_inv (sheet_of words) _ h in
    let (u, hu, h₂) = then_inv (room_for (length (sheet_words (swapped s'))) room) _ h₁ in
    let es : s' ≡ s = passes_inj (sym hs' ∙ hs) in
    let e : ws ≡ sheet_words (swapped s) = sym (passes_inj h₂) ∙ ap (λ x. sheet_words (swapped x)) es in
    (e, (sheet_passes ws (swapped s)).1 (e, swapped_in_range s ((sheet_passes words s).0 hs).1))

-- ---- the demand, for sheets S and T that join within the limits, J the words that the join writes, and a form over their tags

module _ {tree : List ℕ} {e : Element} (S T J : Sheet_on tree e) (room : ℕ)
    (joins : join S.words T.words room ≡ passes J.words) where
  S_range : InRange S.sheet
  S_range = ((sheet_passes S.words S.sheet).0 S.passed).1

  T_range : InRange T.sheet
  T_range = ((sheet_passes T.words T.sheet).0 T.passed).1

  pub joint-is : J.sheet ≡ joint S.sheet T.sheet
  joint-is = passes_inj (sym J.passed ∙ (join_passes S.words T.words room S.passed T.passed joins).1)

  -- Its looks are at most 2 × n × rules of S × rules of T, stuck or not.
  pub joint_looks : looks_in J.verdict ≤ 2 * size e * (length S.sheet.rules * length T.sheet.rules)
  joint_looks =
      le_trans (rw J.returned (looks_bound J.words tree J.states J.passed J.over J.room))
      (mul-le-mul_left (2 * size e) (subst (λ (j : Sheet). length j.rules ≤ length S.sheet.rules * length T.sheet.rules)
      (sym joint-is) (joint-rule-count S.sheet T.sheet)))

  -- on which neither gives two outcomes
  module _ (a b : Reading) (S_one : NoTwo a S) (T_one : NoTwo b T) where
    S_single : Single S.sheet.rules (nodes e)
    S_single = single S.sheet e ((two_read a S).0 S_one)

    T_single : Single T.sheet.rules (nodes e)
    T_single = single T.sheet e ((two_read b T).0 T_one)

    -- The joint sheet doesn't either.
    pub joint-gives_no_two : (w : Reading) → NoTwo w J
    joint-gives_no_two w =
        (two_read w J).1 (none_two J.sheet e
        (subst (λ (j : Sheet). Single j.rules (nodes e)) (sym joint-is)
        (joint_single S.sheet T.sheet S_range T_range e S_single T_single)))

    -- It takes the form to the pair (q, r), r being a state of T, exactly when S takes it to q and T to r.
    pub joint-takes-pair : (u v w : Reading) (q r : ℕ) → ((r < T.sheet.states) × TakesTo w J (pair T.sheet.states q r)) ↔
        (TakesTo u S q × TakesTo v T r)
    joint-takes-pair u v w q r = (there, back)
      where
        product : r < T.sheet.states → Takes (joint S.sheet T.sheet) e (pair T.sheet.states q r) ↔
            (Takes S.sheet e q × Takes T.sheet e r)
        product h = joint-takes S.sheet T.sheet S_range T_range e S_single T_single q r h

        there : (r < T.sheet.states) × TakesTo w J (pair T.sheet.states q r) → TakesTo u S q × TakesTo v T r
        there (h, t) =
            let (x, y) = (product h).0 (subst (λ (j : Sheet). Takes j e (pair T.sheet.states q r)) joint-is ((takes-read w J _).0 t)) in
            ((takes-read u S q).1 x, (takes-read v T r).1 y)

        back : TakesTo u S q × TakesTo v T r → (r < T.sheet.states) × TakesTo w J (pair T.sheet.states q r)
        back t =
            let taken = (takes-read v T r).0 t.1 in
            let h = to_below T.sheet T_range e r taken.1 in (
              h,
              (takes-read w J _).1 (subst (λ (j : Sheet). Takes j e (pair T.sheet.states q r)) (sym joint-is)
                  ((product h).1 ((takes-read u S q).0 t.0, taken))),
            )

    -- It accepts exactly when both accept.
    pub joint_accepts_both : (u v w : Reading) → AcceptsIt w J ↔ (AcceptsIt u S × AcceptsIt v T)
    joint_accepts_both u v w = (there, back)
      where
        product : Accepts (joint S.sheet T.sheet) e ↔ (Accepts S.sheet e × Accepts T.sheet e)
        product = joint_accepts S.sheet T.sheet S_range T_range e S_single T_single

        there : AcceptsIt w J → AcceptsIt u S × AcceptsIt v T
        there t =
            let (x, y) = product.0 (subst (λ (j : Sheet). Accepts j e) joint-is ((accepts_read w J).0 t)) in
            ((accepts_read u S).1 x, (accepts_read v T).1 y)

        back : AcceptsIt u S × AcceptsIt v T → AcceptsIt w J
        back t = (accepts_read w J).1 (subst (λ (j : Sheet). Accepts j e) (sym joint-is)
            (product.1 ((accepts_read u S).0 t.0, (accepts_read v T).0 t.1)))

-- The swapped sheet, W the words that the swap writes, accepts exactly what the sheet takes to a state that isn't final.
pub swapped_accepts_rest : {tree : List ℕ} {e : Element} (S W : Sheet_on tree e) (room : ℕ) → swap S.words room ≡ passes W.words
    → (u w : Reading) → AcceptsIt w W ↔ ((q : ℕ) × TakesTo u S q × (q ∈ S.sheet.final → ⊥))
swapped_accepts_rest {tree} {e} S W room swaps u w = (there, back)
  where
    swapped-is : W.sheet ≡ swapped S.sheet
    swapped-is = passes_inj (sym W.passed ∙ (swap_passes S.words room S.passed swaps).1)

    rest : Accepts (swapped S.sheet) e ↔ ((q : ℕ) × Takes S.sheet e q × (q ∈ S.sheet.final → ⊥))
    rest = swapped_accepts S.sheet ((sheet_passes S.words S.sheet).0 S.passed).1 e

    there : AcceptsIt w W → (q : ℕ) × TakesTo u S q × (q ∈ S.sheet.final → ⊥)
    there t = let (q, h, f) = rest.0 (subst (λ (s : Sheet). Accepts s e) swapped-is ((accepts_read w W).0 t)) in
        (q, (takes-read u S q).1 h, f)

    back : (q : ℕ) × TakesTo u S q × (q ∈ S.sheet.final → ⊥) → AcceptsIt w W
    back (q, h, f) = (accepts_read w W).1 (subst (λ (s : Sheet). Accepts s e) (sym swapped-is) (rest.1 (q, (takes-read u S q).0 h, f)))
