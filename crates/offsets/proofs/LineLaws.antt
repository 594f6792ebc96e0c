-- The lines of a list by their offsets.
use mathlib.Core.Path.{◌≡◌, refl, sym, ap, ◌∙◌}
use mathlib.Core.Bool.{Bool, true, false, cond}
use mathlib.Core.List.{List, [], ◌∷◌}
use Prim.Native.Nat.{ℕ, zero, suc, ◌+◌, ◌-◌, ◌≤◌, ◌<◌}
use native.Mathlib.Nat.{add-zero}
use native.Mathlib.Numerals.{add-one}
use native.Mathlib.Omega.{arith}
use lib.Dec.{eqb}
use lib.ListN.{length, get_or, take, drop, length-drop}
use lib.Seq.{take_all, drop-cons, drop-drop, length-take-le, get_or-drop}
use Rattle.model.specs.Names.{lines, prepend}
use Rattle.offsets.specs.Lines.{line, start_of}
use Rattle.offsets.proofs.Parts.{part_length}
use Rattle.offsets.proofs.Scan.{lines_end}

-- ---- the first line, and the lines after it

prepend_to : (b : ℕ) {ls r : List (List ℕ)} {l : List ℕ} → ls ≡ l ∷ r → prepend b ls ≡ (b ∷ l) ∷ r
unfolding prepend
prepend_to b e = rw e

-- bytes are a line, of n bytes, and the lines after it
lines_cons : (s : List ℕ) → 0 < length s → (n : ℕ) × (0 < n) × (n ≤ length s) × (lines s ≡ take n s ∷ lines (drop n s))
unfolding lines prepend
lines_cons [] h = absurd (omega arith)
lines_cons (b ∷ []) h = (1, omega arith, omega arith, go (eqb b 10))
  where
    go : (t : Bool) → cond t ((b ∷ []) ∷ []) ((b ∷ []) ∷ []) ≡ (b ∷ []) ∷ []
    go true = refl
    go false = refl
lines_cons (b ∷ (d ∷ s)) h = go (eqb b 10) (lines_cons (d ∷ s) (omega arith))
  where
    go : (t : Bool) → (n : ℕ) × (0 < n) × (n ≤ suc (length s)) × (lines (d ∷ s) ≡ take n (d ∷ s) ∷ lines (drop n (d ∷ s)))
        → (n : ℕ) × (0 < n) × (n ≤ suc (suc (length s))) ×
        (cond t ((b ∷ []) ∷ lines (d ∷ s)) (prepend b (lines (d ∷ s))) ≡ take n (b ∷ (d ∷ s)) ∷ lines (drop n (b ∷ (d ∷ s))))
    go true r = (1, omega arith, omega arith, refl)
    go false (n, p, q, e) = (suc n, omega arith, omega arith, prepend_to b e)

lines_none : (s : List ℕ) → 0 < length (lines s) → 0 < length s
unfolding lines
lines_none [] h = h
lines_none (b ∷ s) h = omega arith

-- the line that begins at an offset ends at another
pub record Cut (list : List ℕ) (at end : ℕ) : Type 0 where
  pub after : at < end
  pub within : end ≤ length list
  pub cut : lines (drop at list) ≡ take (end - at) (drop at list) ∷ lines (drop end list)

pub line_cut : (list : List ℕ) (at end : ℕ) → at < length list → end ≡ at + length (line (drop at list) 0) → Cut list at end
line_cut list at end h e =
    let (n, p, q, f) = lines_cons (drop at list) (rw length-drop (omega arith)) in
    let m : length (line (drop at list) 0) ≡ n =
    ap (λ (ls : List (List ℕ)). length (get_or ls 0 [])) f ∙ length-take-le n (drop at list) q in
    let k : n ≡ end - at = omega arith in
    let j : at + (end - at) ≡ end = omega arith in
    record { after = omega arith; within = omega (arith, length-drop at list); cut = f ∙ rw (k, drop-drop, j) }

-- by the length of the first line of what is left of the list
pub rest_cut : (list : List ℕ) (at : ℕ) {n : ℕ} → at < length list → n ≡ length (line (take (length list - at) (drop at list)) 0)
    → Cut list at (at + n)
rest_cut list at h e =
    let all = take_all (length list - at) (drop at list) (omega (arith, length-drop at list)) in
    line_cut list at _ h (rw all at (ap (λ (m : ℕ). at + m) e))

-- ---- where lines begin

pub start-next : (ls : List (List ℕ)) (k : ℕ) → k < length ls → start_of ls (suc k) ≡ start_of ls k + length (get_or ls k [])
unfolding start_of
start-next [] k h = absurd (omega arith)
start-next (l ∷ ls) zero h = omega arith
start-next (l ∷ ls) (suc k) h = omega (arith, start-next ls k (omega arith))

-- line k begins at an offset
pub record Begins (list : List ℕ) (k at : ℕ) : Type 0 where
  pub start : start_of (lines list) k ≡ at
  pub rest : drop k (lines list) ≡ lines (drop at list)
  pub few : k ≤ length (lines list)
  pub within : at ≤ length list

pub begins-first : (list : List ℕ) → Begins list 0 0
unfolding start_of
begins-first list = record { start = refl; rest = refl; few = omega arith; within = omega arith }

module _ (list : List ℕ) (k at : ℕ) (b : Begins list k at) where
  -- a line is left exactly where bytes are
  pub begins-some : at < length list → k < length (lines list)
  begins-some h =
      let (n, p, q, f) = lines_cons (drop at list) (rw length-drop (omega arith)) in
      let e : length (drop k (lines list)) ≡ suc (length (lines (drop n (drop at list)))) = rw (b.rest, f) in
      omega (arith, length-drop k (lines list))

  pub begins_none : length list ≤ at → length (lines list) ≤ k
  begins_none h =
      let e : length (drop k (lines list)) ≡ 0 = rw (b.rest, lines_end list at h) in
      omega (arith, length-drop k (lines list))

  begins-before : k < length (lines list) → at < length list
  begins-before h =
      let e : length (drop k (lines list)) ≡ length (lines (drop at list)) = ap length b.rest in
      omega (arith, length-drop k (lines list), length-drop at list, lines_none (drop at list) (omega (arith, length-drop k (lines list))))

  begins_cut : k < length (lines list) → Cut list at (start_of (lines list) (suc k))
  begins_cut h =
      let e : line list k ≡ line (drop at list) 0 = sym (rw add-zero at (get_or-drop k (lines list) 0 [])) ∙
      ap (λ (ls : List (List ℕ)). get_or ls 0 []) b.rest in
      line_cut list at (start_of (lines list) (suc k)) (begins-before h) (start-next (lines list) k h ∙ rw (b.start, e))

  module _ (end : ℕ) (c : Cut list at end) where
    heads : get_or (lines list) k [] ∷ drop (suc k) (lines list) ≡ take (end - at) (drop at list) ∷ lines (drop end list)
    heads = sym (drop-cons (lines list) k [] (begins-some (omega arith))) ∙ b.rest ∙ c.cut

    pub begins-line : line list k ≡ take (end - at) (drop at list)
    begins-line = cc heads

    pub begins-next : Begins list (k + 1) end
    begins-next =
        let some = begins-some (omega arith) in
        record {
          start = rw add-one (omega (
            arith,
            start-next (lines list) k some,
            b.start,
            ap length begins-line,
            part_length list at end c.within,
          ));
          rest = rw add-one (cc heads);
          few = omega arith;
          within = omega arith;
        }

-- every line begins where its start says
pub begins-at : (list : List ℕ) (k : ℕ) → k ≤ length (lines list) → Begins list k (start_of (lines list) k)
unfolding start_of
begins-at list zero h = begins-first list
begins-at list (suc k) h =
    let b = begins-at list k (omega arith) in
    rw add-one at (begins-next list k (start_of (lines list) k) b (start_of (lines list) (suc k))
    (begins_cut list k (start_of (lines list) k) b h))

module _ (list : List ℕ) (k : ℕ) (h : k < length (lines list)) where
  pub cut_at : Cut list (start_of (lines list) k) (start_of (lines list) (suc k))
  cut_at = begins_cut list k (start_of (lines list) k) (begins-at list k (omega arith)) h

  pub line_at : line list k ≡ take (start_of (lines list) (suc k) - start_of (lines list) k) (drop (start_of (lines list) k) list)
  line_at = begins-line list k (start_of (lines list) k) (begins-at list k (omega arith)) (start_of (lines list) (suc k)) cut_at
