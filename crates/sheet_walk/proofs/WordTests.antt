-- The code's tests of one word are the definition's.
use mathlib.Core.Path.{◌≡◌, sym}
use mathlib.Core.Logic.{by_cases}
use mathlib.Core.Bool.{cond, ◌&&◌, ◌||◌, and-false, and_assoc, or-false}
use Prim.Native.Nat.{ℕ, ◌-◌, ◌/◌, ◌^◌, ◌≤◌, ◌<◌}
use native.Mathlib.Decide.{dec_lt}
use native.Mathlib.Nat.{div-lt_iff_lt-mul, one-mul}
use native.Mathlib.Omega.{arith}
use lib.Dec.{eqb, ltb, leb}
use lib.Pow.{pow_pos, pow_mono}
use borrow.Author.Tests as tests
use Rattle.model.specs.Sheet.{W, below, arc_of, arc_ok, small, signed}
use Rattle.model.proofs.Tests.{yes_like, same, eqb_yes}

-- no bit at k or above: what a shift leaves
pub shifted : (w k : ℕ) → w < W → eqb (cond (ltb k 32) (w / 2 ^ k) 0) 0 ≡ ltb w (2 ^ k)
shifted w k h = by_cases (dec_lt k 32)
    (λ l.
    let (below_one, back) = div-lt_iff_lt-mul {x = w} {y = 1} (pow_pos k) in
    rw (tests.lt-ltb k 32 l) (yes_like _ _
    (λ t. tests.lt-ltb w (2 ^ k) (rw one-mul at (below_one (omega (arith, same (w / 2 ^ k) 0 t)))))
    (λ t. eqb_yes {m = w / 2 ^ k} {n = 0} (omega (arith, back (rw one-mul (tests.ltb-true w (2 ^ k) t)))))))
    (λ l.
    let wide : 32 ≤ k = omega arith in
    let p : W ≤ 2 ^ k = pow_mono wide in
    rw (tests.le-ltb k 32 (omega arith)) (sym (tests.lt-ltb w (2 ^ k) (omega arith))))

-- a coefficient: its two ranges as words
pub coefficient_test : (w : ℕ) → w < W → (leb 1 w && leb w 32767) || leb 4294934528 w ≡ below W w && small (signed w)
unfolding small signed
coefficient_test w h = by_cases (dec_lt w (2 ^ 31))
    (λ l. rw (tests.lt-ltb w W h, tests.lt-ltb w (2 ^ 31) l, tests.lt-leb 4294934528 w (omega arith)) (or-false (leb 1 w && leb w 32767)))
    (λ l. rw (tests.lt-ltb w W h, tests.le-ltb w (2 ^ 31) (omega arith), tests.lt-leb w 32767 (omega arith), and-false (leb 1 w))
    (yes_like _ _ (λ t. tests.lt-ltb (W - 1 - w) 32768 (omega (arith, tests.leb-true 4294934528 w t)))
    (λ t. tests.le-leb 4294934528 w (omega (arith, tests.ltb-true (W - 1 - w) 32768 t)))))

-- an arc word, taken apart by shifts and masks
pub arc_test : (p m w : ℕ) {leaves reads enters : ℕ} → leaves ≡ (arc_of w).leaves → reads ≡ (arc_of w).reads → enters ≡ (arc_of w).enters
    → ltb leaves m && ltb reads p && ltb enters m && eqb (w / 16777216) 0 ≡ arc_ok p m w
unfolding arc_ok
arc_test p m w el er ee = rw (el, er, ee) (simp and_assoc)
