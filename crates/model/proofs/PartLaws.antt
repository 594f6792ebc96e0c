-- Words and parts that stand in a list: each word by its index, all of them as a slice, and parts one after another.
use mathlib.Core.Path.{◌≡◌, refl, sym, ap, ap₂, ◌∙◌}
use mathlib.Core.List.Memᴰ
use mathlib.Core.List.{List, [], ◌∷◌, ◌++◌, flat_map}
use Prim.Native.Nat.{ℕ, zero, suc, ◌+◌, ◌-◌, ◌≤◌, ◌<◌}
use native.Mathlib.Omega.{arith}
use lib.ListN.{length, get_or, take, drop, length-append, length-drop, get_or-append}
use lib.Seq.{slice, take-add, take_at, drop_at, length-take-le, get_or-drop}
use Rattle.model.specs.Spans.{WordsAt, PartAt, PartsAt}
use Rattle.model.proofs.Spans.{span_left, span_right}

-- ---- words

module _ {s ws : List ℕ} {a b : ℕ} (w : WordsAt s a b ws) where
  pub words-end : a ≤ length s → b ≤ length s
  words-end h = omega (arith, ap length w.stands, length-append ws (drop b s), length-drop a s, w.ends)

  pub words-within : 0 < length ws → b ≤ length s
  words-within h = omega (arith, w.ends, ap length w.stands, length-append ws (drop b s), length-drop a s, length-drop b s)

  pub word-within : (k : ℕ) → k < length ws → a + k < length s
  word-within k h = omega (arith, w.ends, words-within (omega arith))

  pub word-is : (k : ℕ) → k < length ws → get_or s (a + k) 0 ≡ get_or ws k 0
  word-is k h = sym (get_or-drop a s k 0) ∙ ap (λ (l : List ℕ). get_or l k 0) w.stands ∙ get_or-append ws (drop b s) 0 k h

  -- they are the words from a up to b
  pub words_part : take (b - a) (drop a s) ≡ ws
  words_part =
      let e : b - a ≡ length ws = omega (arith, w.ends) in
      ap₂ (λ (n : ℕ) (l : List ℕ). take n l) e w.stands ∙ take_at ws (drop b s) (length ws) refl

  pub words-from : a ≤ length s → slice a b s ≡ ws
  words-from h =
      let k = length ws in
      let e : take b s ≡ take a s ++ take k (drop a s) = ap (λ (n : ℕ). take n s) w.ends ∙ take-add a k s in
      ap (drop a) e ∙ drop_at (take a s) (take k (drop a s)) a (length-take-le a s h) ∙ ap (take k) w.stands ∙ take_at ws
      (drop b s) k refl

-- ---- parts one after another

module _ {A : Type 0} (words : A → List ℕ) {In : A → Type 0} {s : List ℕ} where
  -- the first, and those after it
  pub part_first : {a : ℕ} {x : A} {xs : List A} → PartsAt words In s a (x ∷ xs) → PartAt words In s a x
  unfolding flat_map
  part_first {a} {x} {xs} h = record {
    end = a + length (words x);
    there = span_left (words x) (flat_map words xs) h.there;
    ranges = h.ranges x (Memᴰ.head refl);
  }

  pub parts_later : {a : ℕ} {x : A} {xs : List A} → PartsAt words In s a (x ∷ xs) → PartsAt words In s (a + length (words x)) xs
  unfolding flat_map
  parts_later {x = x} {xs = xs} h =
      record { end = h.end; there = span_right (words x) (flat_map words xs) h.there; ranges = λ y m. h.ranges y (Memᴰ.tail m) }

  -- each of them, after those before it
  pub part_nth : {a : ℕ} (xs : List A) (d : A) (k : ℕ) → PartsAt words In s a xs → k < length xs
      → PartAt words In s (a + length (flat_map words (take k xs))) (get_or xs k d)
  unfolding flat_map
  part_nth [] d k h l = absurd (omega arith)
  part_nth {a} (x ∷ xs) d zero h l = let e : a + 0 ≡ a = omega arith in rw e (part_first h)
  part_nth {a} (x ∷ xs) d (suc k) h l =
      let e : a + length (words x ++ flat_map words (take k xs)) ≡ a + length (words x) + length (flat_map words (take k xs))
      = omega (arith, length-append (words x) (flat_map words (take k xs))) in
      rw e (part_nth {a = a + length (words x)} xs d k (parts_later h) (omega arith))

-- k of n parts are passed, and the rest stands from i on
pub record PartsLeft {A : Type 0} (words : A → List ℕ) (In : A → Type 0) (s : List ℕ) (n i k : ℕ) (rest : List A) : Type 0 where
  pub stand : PartsAt words In s i rest
  pub number : length rest + k ≡ n

-- the first of the rest, and what is left after it
pub record Next {A : Type 0} (words : A → List ℕ) (In : A → Type 0) (s : List ℕ) (n i k : ℕ) (rest : List A) : Type 0 where
  pub part : A
  pub others : List A
  pub split : rest ≡ part ∷ others
  pub here : PartAt words In s i part
  pub further : {b : ℕ} → b ≡ i + length (words part) → PartsLeft words In s n b (k + 1) others

module _ {A : Type 0} {words : A → List ℕ} {In : A → Type 0} {s : List ℕ} {n i k : ℕ} where
  pub next_part : (rest : List A) → PartsLeft words In s n i k rest → k < n → Next words In s n i k rest
  next_part [] h l = absurd (omega (arith, h.number))
  next_part (x ∷ xs) h l = record {
    part = x;
    others = xs;
    split = refl;
    here = part_first words h.stand;
    further = λ {b} e. record { stand = rw e (parts_later words h.stand); number = omega (arith, h.number) };
  }

  pub none_left : (rest : List A) → PartsLeft words In s n i k rest → n ≤ k → rest ≡ []
  none_left [] h l = refl
  none_left (x ∷ xs) h l = absurd (omega (arith, h.number))

-- what is made of each part, of the first and of none
module _ {A : Type 0} (f : A → List ℕ) {rest : List A} where
  pub each_next : {x : A} {xs : List A} → rest ≡ x ∷ xs → flat_map f rest ≡ f x ++ flat_map f xs
  unfolding flat_map
  each_next e = rw e

  pub each_none : rest ≡ [] → flat_map f rest ≡ []
  unfolding flat_map
  each_none e = rw e
