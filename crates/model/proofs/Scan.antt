-- Reading in one pass: from a state on, the first refusal, or the content at the end. It is what the refusals, each by itself, declare.
use mathlib.Core.Path.{◌≡◌, refl, sym, ap, ◌∙◌}
use mathlib.Core.Bool.{Bool, true, false, cond, not}
use mathlib.Core.List.{List, []}
use Prim.Native.Nat.{ℕ, zero, suc, ◌+◌, ◌≤◌, ◌<◌}
use native.Mathlib.Omega.{arith}
use lib.Dec.{eqb, leb}
use lib.ListN.{length, drop, drop_of_length-le}
use lib.Seq.{drop-cons}
use borrow.Author.Tests.{leb-true}
use Rattle.model.specs.Answers.{Checked, passes, refuses, ◌>>◌, require}
use Rattle.model.specs.Tree.{Document}
use Rattle.model.specs.Text.{State, start, to, after, move_at, does, moved, scan, state_at, refusal_2, refusal_3, refusal_4}
use Rattle.model.specs.Text.{refusal_5, refusal_6, refusal_7, number_at, first_refused, form_of}
use Rattle.model.proofs.CheckLaws.{required}

-- a place at which nothing is refused is gone on from; at any other the number refuses it
then_left : (n i : ℕ) (r : Checked (Unit {0})) (d : Document) (next : Checked Document) → next ≡ (r >> passes d) → (b : Bool) → cond b next
    (refuses n i) ≡ (cond b r (refuses n i) >> passes d)
unfolding ◌>>◌
then_left n i r d next e true = e
then_left n i r d next e false = refl

-- the end of the text, where only 3 can stand
end-number : (list : List ℕ) (st : State) → number_at list st [] ≡ cond (not (does (to st.place) (to after))) 3 0
unfolding number_at refusal_2 refusal_3 refusal_4 refusal_5 refusal_6 refusal_7
end-number list st = refl

last-place : (b : Bool) (i : ℕ) → Checked (Unit {0})
last-place b i = cond (eqb (cond (not b) 3 0) 0) (passes (tt {0})) (refuses (cond (not b) 3 0) i)

at_end : (d : Document) (i : ℕ) (b : Bool) → cond b (passes d) (refuses 3 i) ≡ (last-place b i >> passes d)
unfolding ◌>>◌ last-place
at_end d i true = refl
at_end d i false = refl

module _ (list s : List ℕ) where
  number : ℕ → ℕ
  number i = number_at list (state_at list s i) (drop i s)

  content : Document
  content = (state_at list s (length s)).content

  scan_step : (st : State) (i : ℕ) → i < length s
      → scan list st i (drop i s)
      ≡ cond (eqb (number_at list st (drop i s)) 0)
      (scan list (moved list st i (drop i s) (move_at st (drop i s))) (suc i) (drop (suc i) s))
      (refuses (number_at list st (drop i s)) i)
  unfolding scan
  scan_step st i h = rw (drop-cons s i 0 h)

  agree : (k i : ℕ) → i + k ≡ length s → scan list (state_at list s i) i (drop i s) ≡ (first_refused number (suc k) i >> passes content)
  unfolding first_refused number content scan state_at last-place
  agree zero i e =
      let h : i ≡ length s = omega arith in
      rw (drop_of_length-le s {i = i} (omega arith), end-number list (state_at list s i))
      (at_end (state_at list s i).content i (does (to (state_at list s i).place) (to after)))
      ∙ ap (λ (n : ℕ). first_refused number 1 i >> passes (state_at list s n).content) h
  agree (suc k) i e =
      scan_step (state_at list s i) i (omega arith)
      ∙ then_left _ i (first_refused number (suc k) (suc i)) content _ (agree k (suc i) (omega arith))
      (eqb (number_at list (state_at list s i) (drop i s)) 0)

  -- 1, or the one pass
  pub scan-is : form_of list s ≡ cond (leb (length s) 65535) (scan list start 0 s) (refuses 1 65535)
  unfolding form_of require ◌>>◌ number content state_at
  scan-is = go (leb (length s) 65535) (agree (length s) 0 (omega arith))
    where
      go : (b : Bool) → scan list start 0 s ≡ (first_refused number (suc (length s)) 0 >> passes content) →
          (require b 1 65535 >> (first_refused number (suc (length s)) 0 >> passes content)) ≡ cond b (scan list start 0 s)
          (refuses 1 65535)
      go true e = sym e
      go false e = refl

-- a text that is read has at most 65,535 bytes
pub form-short : (list s : List ℕ) {d : Document} → form_of list s ≡ passes d → length s ≤ 65535
unfolding form_of
form-short list s e = leb-true (length s) 65535 ((required (leb (length s) 65535) 1 65535 _).0 e).0
