-- Bytes put into a buffer, one run after another.
use mathlib.Core.Path.{◌≡◌, refl, sym, ap, ◌∙◌}
use mathlib.Core.List.{List, [], ◌++◌, append_assoc, append-nil}
use Prim.Native.Nat.{ℕ, ◌+◌, ◌≤◌}
use native.Mathlib.Omega.{arith}
use lib.ListN.{length, take, drop, length-append, length-drop, take-append-drop, drop_of_length-le}
use lib.Seq.{length-take-le, take-length, take_at, drop_at, drop-append-le, drop-drop}
use Rattle.io.specs.Counts.{IsPrefixLen}

-- Bytes are put into a buffer from `at` on: the index after them, what then stands before it, and what stands from it on.
pub record Put (before : List ℕ) (at : ℕ) (put : List ℕ) (next : ℕ) (after : List ℕ) : Type 0 where
  pub next_is : next ≡ at + length put
  pub front : take next after ≡ take at before ++ put
  pub rest : drop next after ≡ drop next before

-- a run copied to the front of the part of a buffer that begins at `at`
pub put_copied : (l run : List ℕ) (at k : ℕ) {ys : List ℕ} {n : ℕ} → at + k ≤ length l → length run ≤ k → n ≡ length run
    → ys ≡ take (length run) run ++ drop (length run) (take k (drop at l)) → Put l at run (at + n) (take at l ++ (ys ++ drop k (drop at l)))
put_copied l run at k {ys} {n} room part count e =
    let mid = take k (drop at l) in
    let post = drop k (drop at l) in
    let whole : length mid ≡ k = length-take-le k (drop at l) (omega (arith, length-drop at l)) in
    let before : length (take at l ++ run) ≡ at + n = omega (arith, length-append (take at l) run, length-take-le at l (omega arith)) in
    let tail : drop (length run) mid ++ post ≡ drop (at + n) l =
    sym (drop-append-le (length run) mid post (omega arith)) ∙ ap (drop (length run)) (take-append-drop k (drop at l))
    ∙ drop-drop (length run) at l ∙ rw count refl in
    let all : take at l ++ (ys ++ post) ≡ (take at l ++ run) ++ (drop (length run) mid ++ post) =
    rw (e, take-length run) (ap (λ r. take at l ++ r)
    (append_assoc run (drop (length run) mid) post) ∙ sym (append_assoc (take at l) run (drop (length run) mid ++ post))) in
    record {
      next_is = omega arith;
      front = rw all (take_at (take at l ++ run) _ (at + n) before);
      rest = rw all (drop_at (take at l ++ run) _ (at + n) before ∙ tail);
    }

-- a run in place of as many bytes of a buffer
pub put_over : (l run : List ℕ) (at k : ℕ) {ys : List ℕ} → at + length run ≤ length l → k ≡ length run → ys ≡ run
    → Put l at run (at + length run) (take at l ++ (ys ++ drop k (drop at l)))
put_over l run at k {ys} room size e =
    let none : drop (length run) (take k (drop at l)) ≡ [] =
    drop_of_length-le (take k (drop at l)) {i = length run}
    (omega (arith, length-take-le k (drop at l) (omega (arith, length-drop at l)))) in
    put_copied l run at k (omega arith) (omega arith) refl
    (e ∙ sym (rw (take-length run, none) (append-nil run)))

-- one run after another is one run
pub put_then : {l m n xs ys : List ℕ} {at o p : ℕ} → Put l at xs o m → Put m o ys p n → Put l at (xs ++ ys) p n
put_then {l} {m} {xs = xs} {ys} {at} {o} {p} h k =
    let past : p ≡ o + length ys = k.next_is in
    let same : drop (o + length ys) m ≡ drop (o + length ys) l =
    sym (drop-drop (length ys) o m) ∙ ap (drop (length ys)) h.rest ∙ drop-drop (length ys) o l in
    record {
      next_is = omega (arith, h.next_is, k.next_is, length-append xs ys);
      front = k.front ∙ ap (λ r. r ++ ys) h.front ∙ append_assoc (take at l) xs ys;
      rest = k.rest ∙ rw past same;
    }

-- a run put to the front, and what the buffer then holds
pub put_front : {l m xs : List ℕ} {o : ℕ} → Put l 0 xs o m → (o ≡ length xs) × ((m ≡ xs ++ drop o l) × IsPrefixLen o m)
put_front {l} {m} {xs} {o} h =
    let count : o ≡ length xs = omega (arith, h.next_is) in
    let front : length (take o m) ≡ length xs = ap length h.front in
    let parts = ap length (take-append-drop o m) in
    (count, (sym (take-append-drop o m) ∙ rw (h.front, h.rest), (omega (arith, parts, length-append (take o m) (drop o m)), omega arith)))
