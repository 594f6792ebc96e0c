-- What a symbol says: a view of `symbol_of`, with the facts of each answer, and the symbols that give each.
use mathlib.Core.Path.{◌≡◌, refl, sym, ◌∙◌}
use mathlib.Core.Logic.{◌≢◌}
use mathlib.Core.Bool.{false, cond}
use Prim.Native.Nat.{ℕ, ◌+◌, ◌-◌, ◌≤◌}
use native.Mathlib.Omega.{arith}
use borrow.Author.Tests.{eqb-true, eqb-false}
use lib.Dec.{eqb}
use Rattle.model.specs.Tree.{text_symbol, tag_symbol, Symbol, of_tag, of_text, of_nothing, symbol_of}
use Rattle.model.proofs.Tests.{Yes, never, Told, yea, nay, told}

pub text≢tag : {k a : ℕ} → of_text k ≢ of_tag a
text≢tag e = let z : ◌≡◌ {A = ℕ} 0 1 = cc in absurd (omega arith)

-- ---- the view

pub data Says (s : ℕ) : Symbol → Type 0 where
  a_text : (k : ℕ) → s ≡ 64 + k → 1 ≤ k → k ≤ 2 → Yes (text_symbol s) → Says s (of_text k)
  a_tag : (a : ℕ) → s ≡ a → 1 ≤ a → text_symbol s ≡ false → Says s (of_tag a)
  nothing : s ≡ 0 → Says s of_nothing

pub says : (s : ℕ) → Says s (symbol_of s)
unfolding symbol_of text_symbol
says s = go (told (eqb s 65)) (told (eqb s 66)) (told (eqb s 0))
  where
    go : Told (eqb s 65) → Told (eqb s 66) → Told (eqb s 0)
        → Says s (cond (eqb s 65) (of_text 1) (cond (eqb s 66) (of_text 2) (cond (eqb s 0) of_nothing (of_tag s))))
    go (yea a) b c = rw a (a_text 1 (eqb-true s 65 a) (omega arith) (omega arith) (rw a))
    go (nay a) (yea b) c = rw (a, b) (a_text 2 (eqb-true s 66 b) (omega arith) (omega arith) (rw (a, b)))
    go (nay a) (nay b) (yea c) = rw (a, b, c) (nothing (eqb-true s 0 c))
    go (nay a) (nay b) (nay c) = rw (a, b, c) (a_tag s refl (omega (arith, eqb-false s 0 c)) (rw (a, b)))

-- ---- what each answer says of the symbol

module _ (s : ℕ) where
  pub text_said : {k : ℕ} → symbol_of s ≡ of_text k → (s ≡ 64 + k) × (1 ≤ k) × (k ≤ 2) × Yes (text_symbol s)
  text_said {k} e = go (rw e at (says s))
    where
      go : Says s (of_text k) → (s ≡ 64 + k) × (1 ≤ k) × (k ≤ 2) × Yes (text_symbol s)
      go (a_text _ is some few y) = (is, some, few, y)

  pub tag_said : {a : ℕ} → symbol_of s ≡ of_tag a → (s ≡ a) × (1 ≤ a) × (text_symbol s ≡ false)
  tag_said {a} e = go (rw e at (says s))
    where
      go : Says s (of_tag a) → (s ≡ a) × (1 ≤ a) × (text_symbol s ≡ false)
      go (a_tag _ is some n) = (is, some, n)

  pub nothing_said : symbol_of s ≡ of_nothing → s ≡ 0
  nothing_said e = go (rw e at (says s))
    where
      go : Says s of_nothing → s ≡ 0
      go (nothing is) = is

  -- no symbol of a text, and of no tag, however many there are
  pub nothing_text : symbol_of s ≡ of_nothing → text_symbol s ≡ false
  unfolding text_symbol
  nothing_text e = rw (nothing_said e)

  pub nothing_tag : (g : ℕ) → symbol_of s ≡ of_nothing → tag_symbol g s ≡ false
  unfolding tag_symbol
  nothing_tag g e = rw (nothing_said e)

-- ---- the symbols that give each answer

pub of_text_symbol : (s : ℕ) → Yes (text_symbol s) → symbol_of s ≡ of_text (s - 64)
unfolding text_symbol
of_text_symbol s y = go (symbol_of s) (says s)
  where
    go : (r : Symbol) → Says s r → r ≡ of_text (s - 64)
    go r (a_text k is _ _ _) = let e : k ≡ s - 64 = omega arith in rw e
    go r (a_tag _ _ _ n) = never (sym n ∙ y)
    go r (nothing z) = never (rw z at y)

pub of_tag_symbol : (g s : ℕ) → text_symbol s ≡ false → Yes (tag_symbol g s) → symbol_of s ≡ of_tag s
unfolding tag_symbol
of_tag_symbol g s n y = go (symbol_of s) (says s)
  where
    go : (r : Symbol) → Says s r → r ≡ of_tag s
    go r (a_text _ _ _ _ t) = never (sym n ∙ t)
    go r (a_tag a is _ _) = rw is
    go r (nothing z) = never (rw z at y)
