-- Bytes put into a buffer, one run after another.
use mathlib.Core.Path.{◌≡◌, refl, sym, ap, ◌∙◌}
use mathlib.Core.List.{List, [], ◌∷◌, ◌++◌}
use Prim.Native.Nat.{ℕ, suc, ◌+◌, ◌≤◌, ◌<◌}
use native.Mathlib.Nat.{add-zero}
use native.Mathlib.Numerals.{add-one}
use native.Mathlib.Omega.{arith}
use lib.ListN.{length, get_or, drop, set, length-append, drop_of_length-le}
use lib.Seq.{drop-cons, sets, length-sets, sets-eq}
use Rattle.write_bytes.specs.Put.{stored, Put, Room, Writes}
use Rattle.write_bytes.specs.declared.Form.{Form}

sets_append : (xs ys l : List ℕ) (i : ℕ) → sets l i (xs ++ ys) ≡ sets (sets l i xs) (i + length xs) ys
sets_append [] ys l i = rw add-zero
sets_append (x ∷ xs) ys l i = sets_append xs ys (set l i x) (suc i) ∙ ap (λ (n : ℕ). sets (sets (set l i x) (suc i) xs) n ys) at
  where
    at : suc i + length xs ≡ i + suc (length xs)
    at = omega arith

-- ---- runs of bytes

pub put_none : (l : List ℕ) (at : ℕ) → Put l at [] at l
unfolding stored
put_none l at = record { next_is = omega arith; buffer = refl }

pub stored-put : (l : List ℕ) (at : ℕ) (xs : List ℕ) → Put l at xs (at + length xs) (stored l at xs)
stored-put l at xs = record { next_is = refl; buffer = refl }

-- one run after another is one run
pub put_then : {l m n xs ys : List ℕ} {at o p : ℕ} → Put l at xs o m → Put m o ys p n → Put l at (xs ++ ys) p n
unfolding stored
put_then {l} {xs = xs} {ys} {at} h k = record {
  next_is = omega (arith, h.next_is, k.next_is, length-append xs ys);
  buffer = k.buffer ∙ rw (h.buffer, h.next_is) (sym (sets_append xs ys l at));
}

pub put-length : {l m xs : List ℕ} {at o : ℕ} → Put l at xs o m → length m ≡ length l
unfolding stored
put-length {l} {xs = xs} {at} h = ap length h.buffer ∙ length-sets l at xs

-- room for two runs is room for the first, and then for the second
pub room-first : (l xs ys : List ℕ) (at : ℕ) → at + length (xs ++ ys) ≤ length l → at + length xs ≤ length l
room-first l xs ys at h = omega (arith, length-append xs ys)

pub room-then : {l m xs : List ℕ} {at o : ℕ} (ys : List ℕ) → Put l at xs o m → at + length (xs ++ ys) ≤ length l → o + length ys ≤ length m
room-then {xs = xs} ys h r = omega (arith, h.next_is, put-length h, length-append xs ys)

-- ---- forms

pub then : {p q r : Form} {u v : List ℕ} → Writes p u q → Writes q v r → Writes p (u ++ v) r
then h k = record { same = k.same ∙ h.same; is = put_then h.is k.is }

pub room_here : (p : Form) (u v : List ℕ) → Room p (u ++ v) → Room p u
room_here p u v r = room-first p.out.now u v p.at r

pub room_after : {p q : Form} {u : List ℕ} (v : List ℕ) → Writes p u q → Room p (u ++ v) → Room q v
room_after v h r = room-then v h.is r

-- and so for what comes in the middle
pub room_middle : {p q : Form} {u : List ℕ} (v w : List ℕ) → Writes p u q → Room p (u ++ (v ++ w)) → Room q v
room_middle {q = q} v w h r = room_here q v w (room_after (v ++ w) h r)

-- bytes put to the front
pub put_front : {l m xs : List ℕ} {o : ℕ} → Put l 0 xs o m → length xs ≤ length l → m ≡ xs ++ drop (length xs) l
unfolding stored
put_front {l} {xs = xs} h k = let z : 0 + length xs ≡ length xs = omega arith in h.buffer ∙ (rw z at (sets-eq xs l 0 (omega arith)))

-- ---- a run copied byte by byte

module _ (l bytes : List ℕ) (at i : ℕ) where
  pub copy_next : i < length bytes → stored l (at + i) (drop i bytes) ≡ stored (set l (at + i) (get_or bytes i 0)) (at + (i + 1))
      (drop (i + 1) bytes)
  unfolding stored
  copy_next h = let e : at + (i + 1) ≡ suc (at + i) = omega arith in rw (e, add-one i, drop-cons bytes i 0 h)

  pub copy_end : length bytes ≤ i → stored l (at + i) (drop i bytes) ≡ l
  unfolding stored
  copy_end h = rw (drop_of_length-le bytes {i = i} h)
