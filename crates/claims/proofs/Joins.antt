-- Demand 3 of the code: the words that `join` leaves at the front of its buffer are judged by `judge`, beside the two sheets; and those
-- that `swap` leaves. Of each call its promise alone is used. The sheets S and T may be judged by `judge` too: then `judged_on` makes
-- them of its promise, and "takes" and "accepts" are read off its answer.
use mathlib.Core.Path.{◌≡◌}
use mathlib.Core.Logic.{◌↔◌}
use mathlib.Core.List.{List}
use Prim.Native.Nat.{ℕ, ◌*◌, ◌≤◌, ◌<◌}
use lib.ListN.{length, take}
use Rattle.std.specs.Prelude.{Ok}
use Rattle.model.specs.Lists.{◌∈◌}
use Rattle.model.specs.Answers.{Answer, Judgement, passes, ◌>>=◌, ◌>>◌, said_judgement, looks_in}
use Rattle.model.specs.Tree.{Element, size, tree_of}
use Rattle.model.specs.Sheet.{Sheet, sheet_of, sheet_words}
use Rattle.model.specs.Compose.{pair, swapped, joint}
use Rattle.model.specs.Calls.{swap, joined, join}
use Rattle.model.specs.Demands.{Promised, JudgePromised, Reading, Sheet_on, TakesTo, AcceptsIt, NoTwo}
use Rattle.model.proofs.Answered.{counts, front_left}
use Rattle.model.proofs.RoundTrip.{room_passes}
use Rattle.model.proofs.Demand3.{join_passes, swap_passes, joint_looks, joint-gives_no_two}
use Rattle.model.proofs.Demand3.{joint-takes-pair, joint_accepts_both, swapped_accepts_rest}

module _ {tree : List ℕ} {e : Element} where
  -- a sheet's words beside a tree, with the answer of `judge` as the verdict
  unfoldable pub judged_on : {words states left : List ℕ} {sheet : Sheet} {answer : Judgement} → JudgePromised words tree states answer left
      → sheet_of words ≡ passes sheet → tree_of sheet.tags tree ≡ passes e → size e ≤ length states → Sheet_on tree e
  judged_on {words} {states} {left} {sheet} {answer} promise passed over room = record {
    words = words;
    sheet = sheet;
    states = states;
    verdict = said_judgement answer;
    passed = passed;
    over = over;
    room = room;
    returned = promise.answer;
  }

  -- `join`, lent S, T and a buffer, counts n words; `judge`, lent the first n words of what it leaves, the tree and room for the states,
  -- gives an answer.
  module _ (S T : Sheet_on tree e) {out left : List ℕ} {r : Answer} {n : ℕ}
      (promised : Promised (join S.words T.words (length out)) out r left) (counted : r ≡ Ok n)
      {states after : List ℕ} {answer : Judgement} (judged : JudgePromised (take n left) tree states answer after)
      (room : size e ≤ length states) where
    joins : join S.words T.words (length out) ≡ passes (take n left)
    joins = front_left promised counted

    -- The words pass the sheet check, and are read as the joint sheet: J is that, with the answer as its verdict.
    pub passed : sheet_of (take n left) ≡ passes (joint S.sheet T.sheet)
    passed = (join_passes S.words T.words (length out) S.passed T.passed joins).1

    pub J : Sheet_on tree e
    unfolding joint
    J = judged_on judged passed S.over room

    -- The looks in the answer are at most 2 × n × rules of S × rules of T.
    pub looks : looks_in (said_judgement answer) ≤ 2 * size e * (length S.sheet.rules * length T.sheet.rules)
    unfolding J judged_on
    looks = joint_looks S T J (length out) joins

    -- on a form on which neither gives two outcomes
    module _ (a b : Reading) (S_one : NoTwo a S) (T_one : NoTwo b T) where
      -- The joint sheet doesn't either.
      pub gives_no_two : (w : Reading) → NoTwo w J
      unfolding J judged_on
      gives_no_two = joint-gives_no_two S T J (length out) joins a b S_one T_one

      -- It takes the form to the pair (q, r), r being a state of T, exactly when S takes it to q and T to r.
      pub takes-pair : (u v w : Reading) (q r : ℕ) → ((r < T.sheet.states) × TakesTo w J (pair T.sheet.states q r)) ↔
          (TakesTo u S q × TakesTo v T r)
      unfolding J judged_on
      takes-pair = joint-takes-pair S T J (length out) joins a b S_one T_one

      -- It accepts exactly when both accept.
      pub accepts_both : (u v w : Reading) → AcceptsIt w J ↔ (AcceptsIt u S × AcceptsIt v T)
      unfolding J judged_on
      accepts_both = joint_accepts_both S T J (length out) joins a b S_one T_one

  -- `swap`, lent S and a buffer, counts n words; `judge`, lent the first n words of what it leaves, gives an answer.
  module _ (S : Sheet_on tree e) {out left : List ℕ} {r : Answer} {n : ℕ} (turned : Promised (swap S.words (length out)) out r left)
      (counted : r ≡ Ok n)
      {states after : List ℕ} {answer : Judgement} (judged : JudgePromised (take n left) tree states answer after)
      (room : size e ≤ length states) where
    swaps : swap S.words (length out) ≡ passes (take n left)
    swaps = front_left turned counted

    -- W is the swapped sheet as these words, with the answer as its verdict.
    pub W : Sheet_on tree e
    unfolding swapped
    W = judged_on judged (swap_passes S.words (length out) S.passed swaps).1 S.over room

    -- It accepts exactly what the sheet takes to a state that isn't final.
    pub accepts_rest : (u w : Reading) → AcceptsIt w W ↔ ((q : ℕ) × TakesTo u S q × (q ∈ S.sheet.final → ⊥))
    unfolding W judged_on
    accepts_rest = swapped_accepts_rest S W (length out) swaps

-- ---- what isn't refused is written

-- Sheets that 9, 20 and 21 don't refuse, with room for the words of their joint sheet, are joined: the answer counts these words.
pub joins_count : (first second : List ℕ) {out left : List ℕ} {r : Answer} {j : Sheet}
    → Promised (join first second (length out)) out r left → joined first second ≡ passes j → length (sheet_words j) ≤ length out
    → r ≡ Ok (length (sheet_words j))
unfolding join ◌>>=◌ ◌>>◌
joins_count first second {out} {r = r} {j} promise within room =
    let fits = room_passes (length (sheet_words j)) (length out) room in
    let writes : join first second (length out) ≡ passes (sheet_words j) = rw (within, fits) in
    counts length (join first second (length out)) r promise.answer writes

-- A sheet that 9 doesn't refuse, with room, is swapped: the answer counts its words.
pub swaps_count : (words : List ℕ) {out left : List ℕ} {r : Answer} {s : Sheet} → Promised (swap words (length out)) out r left
    → sheet_of words ≡ passes s → length (sheet_words (swapped s)) ≤ length out → r ≡ Ok (length (sheet_words (swapped s)))
unfolding swap ◌>>=◌ ◌>>◌
swaps_count words {out} {r = r} {s} promise passes_check room =
    let fits = room_passes (length (sheet_words (swapped s))) (length out) room in
    let writes : swap words (length out) ≡ passes (sheet_words (swapped s)) = rw (passes_check, fits) in
    counts length (swap words (length out)) r promise.answer writes
