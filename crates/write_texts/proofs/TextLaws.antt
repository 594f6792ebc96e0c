-- The tests of 11: every byte of a text, its ends, and where it lies in its source.
use mathlib.Core.Path.{◌≡◌, refl, sym, ◌∙◌}
use mathlib.Core.Bool.{Bool, true, false, not, ◌&&◌, ◌||◌, and_assoc, and-true}
use mathlib.Core.List.{List, [], ◌∷◌}
use Prim.Native.Nat.{ℕ, suc, ◌+◌, ◌-◌, ◌≤◌, ◌<◌}
use native.Mathlib.Omega.{arith}
use denote.Enum.Bare.{sameb}
use borrow.Author.Tests.{le-leb, lt-leb}
use lib.Dec.{eqb}
use lib.ListN.{length, get_or, take, drop}
use Rattle.std.specs.Prelude.{None}
use Rattle.std.specs.List.{slice_get}
use Rattle.model.specs.Bytes.{white, is, class_of, kind_of_text, text_kind}
use Rattle.model.specs.Lists.{every}
use Rattle.model.specs.Tree.{Span}
use Rattle.model.specs.declared.TextKind.{TextKind}
use Rattle.model.specs.declared.TextKind.TheVariants.{Integer, Other}
use Rattle.model.specs.contracts.TextKind.{the_type}
use Rattle.model.specs.Written.{text_byte, solid_byte, trimmed_text, good_text}
use Rattle.model.proofs.ListLaws.{every-at, every-end}
use Rattle.write_nodes.proofs.SourceLaws.{source_part}

-- ---- a test of every byte, from byte i on, with a flag for the bytes before it

module _ (f : ℕ → Bool) (s : List ℕ) (i : ℕ) where
  pub flag_next : (good : Bool) {all here : Bool} → all ≡ (good && every f (drop i s)) → i < length s → here ≡ f (get_or s i 0)
      → all ≡ ((good && here) && every f (drop (i + 1) s))
  flag_next good {here = here} e h t = e ∙ rw (every-at f s i h, ← t) (sym (and_assoc good here _))

  flag_end : (good : Bool) {all : Bool} → all ≡ (good && every f (drop i s)) → length s ≤ i → all ≡ good
  flag_end good e h = e ∙ rw (every-end f s i h) (and-true good)

-- ---- trimmed texts

trimmed_by : (s : List ℕ) → 0 < length s
    → trimmed_text s ≡ (not (is (class_of (get_or s 0 0)) white || is (class_of (get_or s (length s - 1) 0)) white) && every text_byte s)
unfolding trimmed_text solid_byte
trimmed_by [] h = absurd (omega arith)
trimmed_by (b ∷ s) h =
    let last : suc (length s) - 1 ≡ length s = omega arith in
    rw last (go (is (class_of b) white) (is (class_of (get_or (b ∷ s) (length s) 0)) white) (every text_byte (b ∷ s)))
  where
    go : (p q r : Bool) → (not p && (not q && r)) ≡ (not (p || q) && r)
    go true q r = refl
    go false q r = refl

pub trimmed_none : (s : List ℕ) → None ≡ slice_get s 0 → false ≡ trimmed_text s
unfolding trimmed_text
trimmed_none [] h = refl
trimmed_none (b ∷ s) h = cc

-- the first byte and the last, and whether they are white
module _ (s : List ℕ) (some : 0 < length s) {x y : ℕ} (x-is : x ≡ get_or s 0 0) (y-is : y ≡ get_or s (length s - 1) 0)
    {first last : Bool} (f : first ≡ is (class_of x) white) (l : last ≡ is (class_of y) white) where
  pub trimmed_white : (first || last) ≡ true → false ≡ trimmed_text s
  trimmed_white h = sym (trimmed_by s some ∙ rw (← x-is, ← y-is, ← f, ← l, h))

  pub trimmed_solid : (first || last) ≡ false → (good : Bool) (i : ℕ) → every text_byte s ≡ (good && every text_byte (drop i s))
      → length s ≤ i → good ≡ trimmed_text s
  trimmed_solid h good i e k = sym (trimmed_by s some ∙ rw (← x-is, ← y-is, ← f, ← l, h) (flag_end text_byte s i good e k))

-- ---- kinds are equal where their numbers are

kinds_equal : (x y : TextKind) → sameb the_type x y ≡ eqb (text_kind x) (text_kind y)
kinds_equal Integer Integer = refl
kinds_equal Integer Other = refl
kinds_equal Other Integer = refl
kinds_equal Other Other = refl

-- ---- where a text lies

module _ (text : List ℕ) (w : Span) where
  pub good_past : (kind : TextKind) → length text < w.start + w.bytes → false ≡ good_text text (text_kind kind) w
  unfolding good_text
  good_past kind h = rw (lt-leb _ _ h)

  pub good-here : {good same : Bool} (here kind : TextKind) {s : List ℕ} → w.start + w.bytes ≤ length text
      → s ≡ take (w.start + w.bytes - w.start) (drop w.start text) → good ≡ trimmed_text s → text_kind here ≡ kind_of_text s
      → same ≡ sameb the_type here kind → (good && same) ≡ good_text text (text_kind kind) w
  unfolding good_text
  good-here here kind h p e f s = rw (le-leb _ _ h, e, s, kinds_equal here kind, f, p, source_part text w)
