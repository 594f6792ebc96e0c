-- Laws of writing: one run of words after another, what a loop that writes keeps, and the front of the buffer at last.
use mathlib.Core.Path.{◌≡◌, refl, sym, ap, ap₂, ◌∙◌}
use mathlib.Core.Logic.{by_cases}
use mathlib.Core.List.{List, [], ◌∷◌, ◌++◌, flat_map, append_assoc}
use Prim.Native.Nat.{ℕ, zero, suc, ◌+◌, ◌-◌, ◌≤◌, ◌<◌, min}
use native.Mathlib.Decide.{dec_le}
use native.Mathlib.Nat.{add-zero, zero-add, sub-zero}
use native.Mathlib.Numerals.{add-one}
use native.Mathlib.Omega.{arith}
use lib.ListN.{length, get_or, take, drop, set, replicate, length-set, length-take, length-drop, drop_of_length-le}
use lib.Seq.{sets, sets-eq, set_out, slice, slice-cons, take_all, drop-cons, length-take-le}
use borrow.Rule.Slice.PartMut.{put_mid}
use Rattle.std.proofs.lemmas.List.{drop-drop, length-replicate, take-replicate}
use borrow.Author.Tests as tests
use Rattle.model.specs.Lists.{from, numbers, row, grid}
use Rattle.page.specs.Page.{Leaf, leaf, add, adds, repeated, Writes, Fills}
use Rattle.page.specs.declared.Page.{Page}

abbrev leaf_of : Page → Leaf
leaf_of p = leaf p.out.now p.at

pub nothing : (p : Page) → Writes p [] p
unfolding adds
nothing p = record { same = refl; is = refl }

-- ---- one run of words after another

adds-append : (g : Leaf) (u v : List ℕ) → adds g (u ++ v) ≡ adds (adds g u) v
unfolding adds
adds-append g [] v = refl
adds-append g (w ∷ u) v = adds-append (add g w) u v

pub then : {p q r : Page} {u v : List ℕ} → Writes p u q → Writes q v r → Writes p (u ++ v) r
then {p} {u = u} {v = v} h k = record {
  same = k.same ∙ h.same;
  is = k.is ∙ ap (λ (x : Leaf). adds x v) h.is ∙ sym (adds-append (leaf_of p) u v);
}

-- the same words, said otherwise
pub as_words : {p q : Page} {u v : List ℕ} → u ≡ v → Writes p u q → Writes p v q
as_words {p} e h = record { same = h.same; is = h.is ∙ ap (adds (leaf_of p)) e }

-- the buffer keeps its length
adds-length : (g : Leaf) (ws : List ℕ) → length (adds g ws).words ≡ length g.words
unfolding adds add
adds-length g [] = refl
adds-length g (w ∷ ws) =
    adds-length (add g w) ws ∙ by_cases (dec_le g.next 16384) (λ h. rw (tests.le-leb g.next 16384 h) (simp length-set))
    (λ h. rw (tests.lt-leb g.next 16384 (omega arith)))

-- ---- a loop: what is left to write leads from here to where the whole leads from the start

pub record Left (p₀ : Page) (ws : List ℕ) (p : Page) (rest : List ℕ) : Type 0 where
  pub same : p.out.ghost_name ≡ p₀.out.ghost_name
  pub is : adds (leaf_of p) rest ≡ adds (leaf_of p₀) ws

pub begun : {p : Page} {ws rest : List ℕ} → rest ≡ ws → Left p ws p rest
begun {p} e = record { same = refl; is = ap (adds (leaf_of p)) e }

module _ {p₀ : Page} {ws : List ℕ} {p : Page} {rest : List ℕ} (inv : Left p₀ ws p rest) where
  pub more : {u v : List ℕ} {q : Page} → rest ≡ u ++ v → Writes p u q → Left p₀ ws q v
  more {u} {v} e h = record { same = h.same ∙ inv.same; is = rw (h.is, ← adds-append (leaf_of p) u v, ← e) inv.is }

  pub done : rest ≡ [] → Writes p₀ ws p
  unfolding adds
  done e = record { same = inv.same; is = ap (adds (leaf_of p)) (sym e) ∙ inv.is }

-- ---- lists, one element at a time

-- the words of a list from an index on
pub rest_next : (l : List ℕ) (i : ℕ) → i < length l → drop i l ≡ get_or l i 0 ∷ drop (i + 1) l
rest_next l i h = rw add-one (drop-cons l i 0 h)

pub rest_none : (l : List ℕ) (i : ℕ) → length l ≤ i → drop i l ≡ []
rest_none l i h = drop_of_length-le l {i = i} h

-- the words of a list from one index up to another
pub slice_next : (l : List ℕ) (i j : ℕ) → i < j → j ≤ length l → slice i j l ≡ get_or l i 0 ∷ slice (i + 1) j l
slice_next l i j h k = rw add-one (slice-cons i j l 0 h k)

-- the first of them, as it was read
pub slice_at : (l : List ℕ) (i j : ℕ) {w : ℕ} → w ≡ get_or l i 0 → i < j → j ≤ length l → slice i j l ≡ w ∷ slice (i + 1) j l
slice_at l i j e h k = rw e (slice_next l i j h k)

pub slice_none : (l : List ℕ) (i j : ℕ) → j ≤ i → slice i j l ≡ []
slice_none l i j h = drop_of_length-le (take j l) {i = i} (omega (arith, length-take j l))

-- cut off where the list ends
pub slice_cut : (l : List ℕ) (i j : ℕ) {e : ℕ} → e ≡ min j (length l) → slice i e l ≡ slice i j l
slice_cut l i j {e} h = by_cases (dec_le j (length l)) (λ k. let same : e ≡ j = omega arith in rw same)
    (λ k. rw (take_all e l (omega arith), take_all j l (omega arith)))

-- the numbers below n from i on
pub from_start : {m n : ℕ} → n ≡ m → from (n - 0) 0 ≡ numbers m
from_start {m} {n} e = rw (sub-zero n, e)

pub from_none : (i n : ℕ) → n ≤ i → from (n - i) i ≡ []
unfolding from
from_none i n h = let e : n - i ≡ 0 = omega arith in rw e

-- words n times over, one time after another
pub repeated-next : (ws : List ℕ) (n : ℕ) → 0 < n → repeated n ws ≡ ws ++ repeated (n - 1) ws
unfolding repeated
repeated-next ws n h = let e : n ≡ suc (n - 1) = omega arith in ap (λ (k : ℕ). repeated k ws) e

pub repeated_none : (ws : List ℕ) (n : ℕ) → n ≤ 0 → repeated n ws ≡ []
unfolding repeated
repeated_none ws n h = let e : n ≡ 0 = omega arith in rw e

-- what is made of each
module _ (f : ℕ → ℕ → ℕ) where
  pub row_next : (a : ℕ) {b r : ℕ} {bs rest : List ℕ} → bs ≡ b ∷ rest → r ≡ f a b → row f bs a ≡ (r ∷ []) ++ row f rest a
  unfolding row flat_map
  row_next a e h = rw (e, h)

  pub row_like : (a : ℕ) {bs cs : List ℕ} → bs ≡ cs → row f bs a ≡ row f cs a
  row_like a e = ap (λ (l : List ℕ). row f l a) e

  pub row_none : (a : ℕ) {bs : List ℕ} → bs ≡ [] → row f bs a ≡ []
  unfolding row flat_map
  row_none a e = rw e

  pub grid-next : {a : ℕ} {as' rest : List ℕ} (bs : List ℕ) → as' ≡ a ∷ rest → grid f as' bs ≡ row f bs a ++ grid f rest bs
  unfolding grid flat_map
  grid-next bs e = rw e

  pub grid_none : {as' : List ℕ} (bs : List ℕ) → as' ≡ [] → grid f as' bs ≡ []
  unfolding grid flat_map
  grid_none bs e = rw e

-- ---- a part of the buffer at once: those of the words that it has room for

-- n words are counted, and the first k of them have room
adds-room : (ws l : List ℕ) (i : ℕ) {n k : ℕ} → n ≡ min (length ws) (16385 - i) → k ≡ min n (length l - i)
    → adds (leaf l i) ws ≡ leaf (sets l i (take k ws)) (i + n)
unfolding adds add
adds-room [] l i {n} {k} en ek =
    let zn : n ≡ 0 = omega arith in
    let zk : k ≡ 0 = omega arith in
    rw (zn, zk, add-zero) refl
adds-room (w ∷ ws) l i {n} {k} en ek =
    by_cases (dec_le i 16384)
    (λ h.
    let next : suc i + (n - 1) ≡ i + n = omega arith in
    rw (tests.le-leb i 16384 h, add-one i) (by_cases (dec_le (length l) i)
    (λ full.
    let none : k ≡ 0 = omega arith in
    rw (none, set_out l i w full) (adds-room ws l (suc i) {n = n - 1} {k = 0} (omega arith) (omega arith) ∙ ap (leaf l) next))
    (λ some.
    let more : k ≡ suc (k - 1) = omega arith in
    let room : k - 1 ≡ min (n - 1) (length (set l i w) - suc i) = omega (arith, length-set l i w) in
    rw more (adds-room ws (set l i w) (suc i) {n = n - 1} {k = k - 1} (omega arith) room
    ∙ ap (leaf (sets (set l i w) (suc i) (take (k - 1) ws))) next))))
    (λ past.
    let none : k ≡ 0 = omega arith in
    rw (tests.lt-leb i 16384 (omega arith), none) (adds-room ws l i {n = n} {k = 0} (omega arith) (omega arith)))

-- the words that come to index `end`, where the buffer has room up to `top`
module _ (l ws : List ℕ) (i : ℕ) {end top : ℕ} (ends : end ≡ i + min (length ws) (16385 - i)) (tops : top ≡ min end (length l)) where
  all-put : leaf (sets l i (take (top - i) ws)) end ≡ adds (leaf l i) ws
  all-put = rw ends (sym (adds-room ws l i refl (omega arith)))

  pub put_within : {ys : List ℕ} → i < top → ys ≡ take (top - i) ws → leaf (put_mid i (top - i) l ys) end ≡ adds (leaf l i) ws
  put_within h e =
      let long : length (take (top - i) ws) ≡ top - i = length-take-le (top - i) ws (omega arith) in
      rw (e, drop-drop (top - i) i l) (rw (sets-eq (take (top - i) ws) l i (omega arith), long, append_assoc) at all-put)

  pub put_nowhere : top ≤ i → leaf l end ≡ adds (leaf l i) ws
  put_nowhere h = let none : top - i ≡ 0 = omega arith in rw none at all-put

-- a word n times over, as `fill` says it
repeated-one : (n w : ℕ) → repeated n (w ∷ []) ≡ replicate n w
unfolding repeated
repeated-one zero w = refl
repeated-one (suc n) w = ap (λ (ws : List ℕ). w ∷ ws) (repeated-one n w)

pub fill_within : (l : List ℕ) (n w i : ℕ) {end top : ℕ} → end ≡ i + min n (16385 - i) → top ≡ min end (length l) → {ys : List ℕ} → i < top
    → ys ≡ replicate (length (take (top - i) (drop i l))) w
    → leaf (put_mid i (top - i) l ys) end ≡ adds (leaf l i) (repeated n (w ∷ []))
fill_within l n w i {top = top} ends tops h e =
    let room : length (take (top - i) (drop i l)) ≡ top - i = length-take-le (top - i) (drop i l) (omega (arith, length-drop i l)) in
    rw repeated-one
    (put_within l (replicate n w) i (rw length-replicate ends) tops h (e ∙ rw (room, take-replicate (top - i) n w (omega arith)) refl))

pub fill_nowhere : (l : List ℕ) (n w i : ℕ) {end top : ℕ} → end ≡ i + min n (16385 - i) → top ≡ min end (length l) → top ≤ i
    → leaf l end ≡ adds (leaf l i) (repeated n (w ∷ []))
fill_nowhere l n w i ends tops h = rw repeated-one (put_nowhere l (replicate n w) i (rw length-replicate ends) tops h)

-- ---- from the start of a buffer: the number of words, and the front of the buffer

-- words within the most are stored one after another
adds-all : (ws l : List ℕ) (i : ℕ) → i + length ws ≤ 16385 → adds (leaf l i) ws ≡ leaf (sets l i ws) (i + length ws)
unfolding adds add
adds-all [] l i h = let e : i ≡ i + 0 = omega arith in ap (leaf l) e
adds-all (w ∷ ws) l i h =
    let e : suc i + length ws ≡ i + length (w ∷ ws) = omega arith in
    rw (tests.le-leb i 16384 (omega arith), add-one i)
    (adds-all ws (set l i w) (suc i) (omega arith) ∙ ap (leaf (sets (set l i w) (suc i) ws)) e)

-- and all are counted, up to one more than the most
adds-next : (ws : List ℕ) (g : Leaf) → g.next ≤ 16385 → (adds g ws).next ≡ min (g.next + length ws) 16385
unfolding adds add
adds-next [] g h = omega arith
adds-next (w ∷ ws) g h =
    let e : (add g w).next ≡ min (g.next + 1) 16385
    = by_cases (dec_le g.next 16384) (λ l. rw (tests.le-leb g.next 16384 l) (omega arith)) (λ l.
    rw (tests.lt-leb g.next 16384 (omega arith)) (omega arith)) in
    omega (arith, adds-next ws (add g w) (omega arith))

module _ {l ws l' : List ℕ} {n : ℕ} where
  pub filled : {p q : Page} → p.out.now ≡ l → p.at ≡ 0 → Writes p ws q → q.out.now ≡ l' → n ≡ q.at → Fills l ws l' n
  filled empty start h last all =
      record { is = ap₂ leaf (sym last) all ∙ h.is ∙ ap₂ (λ (m : List ℕ) (i : ℕ). adds (leaf m i) ws) empty start }

  module _ (h : Fills l ws l' n) where
    pub counted : n ≡ min (length ws) 16385
    counted = omega (arith, ap (λ (x : Leaf). x.next) h.is, adds-next ws (leaf l 0) (omega arith))

    pub front : length ws ≤ 16384 → length ws ≤ length l → l' ≡ ws ++ drop (length ws) l
    front few room =
        ap (λ (x : Leaf). x.words) (h.is ∙ adds-all ws l 0 (omega arith)) ∙ sets-eq ws l 0 (omega arith) ∙ rw (zero-add (length ws))
