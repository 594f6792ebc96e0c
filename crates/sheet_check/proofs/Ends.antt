-- Where a sheet ends: the answer of the check by where its first 16,384 words are read to.
use mathlib.Core.Path.{◌≡◌, refl}
use mathlib.Core.Logic.{by_cases}
use mathlib.Core.List.{List}
use Prim.Native.Nat.{ℕ, min}
use native.Mathlib.Decide.{dec_le}
use native.Mathlib.Omega.{arith}
use lib.ListN.{length, take}
use lib.Seq.{take_all}
use borrow.Author.Tests as tests
use Rattle.std.specs.Prelude.{Result, Ok, Err}
use Rattle.sheet_walk.specs.declared.Bad.{Bad}
use Rattle.model.specs.Answers.{count, refusal, answer_of}
use Rattle.model.specs.Sheet.{Sheet, Got, got, sheet, ended, sheet_of}
use Rattle.model.specs.Calls.{sheet_said}
use Rattle.sheet_walk.specs.declared.Walk.{Walk}
use Rattle.sheet_walk.specs.Walks.{GoesPast}
use Rattle.model.proofs.PassedLaws.{few_words}
use Rattle.sheet_walk.proofs.WalkLaws.{refused, taken}
use Rattle.sheet_rules.specs.Places.{Places}

take_min : (n : ℕ) (s : List ℕ) → take (min n (length s)) s ≡ take n s
take_min n s = by_cases (dec_le (length s) n) (λ h. rw (take_all n s h, take_all (min n (length s)) s (omega arith)))
    (λ h. let m : min n (length s) ≡ n = omega arith in rw m)

module _ (s : List ℕ) {e : ℕ} {x y : Walk} {w : Result (Unit {0}) Bad} (ee : e ≡ min 16384 (length s)) (ex : x.words.now ≡ take e s)
    (start : x.at ≡ 0) (h : GoesPast sheet x w y) where
  from_start : {g : Got Sheet} → sheet x.words.now x.at ≡ g → sheet (take 16384 s) 0 ≡ g
  from_start e = rw (ex, start, ee, take_min 16384 s) at e

  pub ends_bad : {b : Bad} → w ≡ Err b → refusal 9 b.0 ≡ sheet_said s
  unfolding sheet_said answer_of sheet_of ended
  ends_bad f = rw (from_start (refused h f)) refl

  module _ (f : w ≡ Ok tt) where
    end : (t : Sheet) × (sheet (take 16384 s) 0 ≡ got t y.at)
    end = let (t, read, _) = taken h f in (t, from_start read)

    pub ends_whole : y.at ≡ length s → count (length s) ≡ sheet_said s
    unfolding sheet_said answer_of sheet_of ended
    ends_whole g = rw (end.1, tests.eq-eqb y.at (length s) g)

    pub ends_early : (y.at ≡ length s → ⊥) → refusal 9 y.at ≡ sheet_said s
    unfolding sheet_said answer_of sheet_of ended
    ends_early g = rw (end.1, tests.ne_eqb y.at (length s) g)

-- a sheet that passes is no longer than the part that is checked
pub part_whole : {s : List ℕ} {e : ℕ} {places : List ℕ} → e ≡ min 16384 (length s) → Places (take e s) places → Places s places
part_whole {s} {e} ee h = record { noted = λ ok. (rw (take_all e s (omega (arith, few_words ok))) at h).noted ok }
