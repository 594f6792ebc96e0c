-- Demand 3 of the code, of any sheet of the words that are left: J is any sheet of the words that `join` leaves at the front of its buffer,
-- beside the tree and with a verdict on it, and W likewise of those that `swap` leaves. Of each call its promise alone is used; `judge`,
-- lent these words, gives such a J and such a W.
use mathlib.Core.Path.{◌≡◌, refl}
use mathlib.Core.Logic.{◌↔◌}
use mathlib.Core.List.{List}
use Prim.Native.Nat.{ℕ, ◌*◌, ◌≤◌, ◌<◌}
use lib.ListN.{length, take}
use Rattle.std.specs.Prelude.{Ok}
use Rattle.model.specs.Lists.{◌∈◌}
use Rattle.model.specs.Answers.{Answer, Judgement, passes, said_judgement, looks_in}
use Rattle.model.specs.Tree.{Element, size}
use Rattle.model.specs.Sheet.{sheet_of}
use Rattle.model.specs.Compose.{pair, swapped, joint}
use Rattle.model.specs.Calls.{swap, join}
use Rattle.model.specs.Demands.{Promised, JudgePromised, Reading, Sheet_on, TakesTo, AcceptsIt, NoTwo}
use Rattle.model.proofs.Answered.{front_left}
use Rattle.model.proofs.Demand3.{join_passes, swap_passes, joint_looks, joint-gives_no_two}
use Rattle.model.proofs.Demand3.{joint-takes-pair, joint_accepts_both, swapped_accepts_rest}
use Rattle.claims.proofs.Joins.{judged_on}

module _ {tree : List ℕ} {e : Element} where
  -- `join`, lent S, T and a buffer, counts n words.
  module _ (S T : Sheet_on tree e) {out left : List ℕ} {r : Answer} {n : ℕ}
      (promised : Promised (join S.words T.words (length out)) out r left) (counted : r ≡ Ok n) where
    -- The first n words of what it leaves pass the sheet check, and are read as the joint sheet.
    pub passed : sheet_of (take n left) ≡ passes (joint S.sheet T.sheet)
    passed = (join_passes S.words T.words (length out) S.passed T.passed (front_left promised counted)).1

    -- `judge`, lent these words, the tree and room for the states, makes a J of them, with its answer as the verdict.
    pub joint_judged : {states after : List ℕ} {answer : Judgement} → JudgePromised (take n left) tree states answer after
        → size e ≤ length states → (J : Sheet_on tree e) × (J.words ≡ take n left) × (J.verdict ≡ said_judgement answer)
    unfolding judged_on joint
    joint_judged judged room = (judged_on judged passed S.over room, refl, refl)

    -- J is these words beside the tree, with a verdict.
    module _ (J : Sheet_on tree e) (its_words : J.words ≡ take n left) where
      joins : join S.words T.words (length out) ≡ passes J.words
      joins = rw its_words (front_left promised counted)

      -- The looks in the verdict are at most 2 × n × rules of S × rules of T.
      pub looks : looks_in J.verdict ≤ 2 * size e * (length S.sheet.rules * length T.sheet.rules)
      looks = joint_looks S T J (length out) joins

      -- on a form on which neither gives two outcomes
      module _ (a b : Reading) (S_one : NoTwo a S) (T_one : NoTwo b T) where
        -- The joint sheet doesn't either.
        pub gives_no_two : (w : Reading) → NoTwo w J
        gives_no_two = joint-gives_no_two S T J (length out) joins a b S_one T_one

        -- It takes the form to the pair (q, r), r being a state of T, exactly when S takes it to q and T to r.
        pub takes-pair : (u v w : Reading) (q r : ℕ) → ((r < T.sheet.states) × TakesTo w J (pair T.sheet.states q r)) ↔
            (TakesTo u S q × TakesTo v T r)
        takes-pair = joint-takes-pair S T J (length out) joins a b S_one T_one

        -- It accepts exactly when both accept.
        pub accepts_both : (u v w : Reading) → AcceptsIt w J ↔ (AcceptsIt u S × AcceptsIt v T)
        accepts_both = joint_accepts_both S T J (length out) joins a b S_one T_one

  -- `swap`, lent S and a buffer, counts n words.
  module _ (S : Sheet_on tree e) {out left : List ℕ} {r : Answer} {n : ℕ} (turned : Promised (swap S.words (length out)) out r left)
      (counted : r ≡ Ok n) where
    -- `judge`, lent the first n words of what it leaves, the tree and room for the states, makes a W of them.
    pub swapped_judged : {states after : List ℕ} {answer : Judgement} → JudgePromised (take n left) tree states answer after
        → size e ≤ length states → (W : Sheet_on tree e) × (W.words ≡ take n left) × (W.verdict ≡ said_judgement answer)
    unfolding judged_on swapped
    swapped_judged judged room =
        let reads = (swap_passes S.words (length out) S.passed (front_left turned counted)).1 in
        (judged_on judged reads S.over room, refl, refl)

    -- W, these words beside the tree, accepts exactly what the sheet takes to a state that isn't final.
    pub accepts_rest : (W : Sheet_on tree e) → W.words ≡ take n left
        → (u w : Reading) → AcceptsIt w W ↔ ((q : ℕ) × TakesTo u S q × (q ∈ S.sheet.final → ⊥))
    accepts_rest W its_words = swapped_accepts_rest S W (length out) (rw its_words (front_left turned counted))
