-- Words written one after another into a buffer.
use Rattle.std.specs.Prelude.{◌≡◌, cond, ℕ, zero, suc, ◌+◌, leb, set}
use mathlib.Core.List.{List, [], ◌∷◌, ◌++◌, flat_map}
use Rattle.page.specs.declared.Page.{Page}

-- a buffer, and the index of the next word
pub record Leaf : Type 0 where
  pub words : List ℕ
  pub next : ℕ

abbrev pub leaf : List ℕ → ℕ → Leaf
leaf words next = record { words = words; next = next }

-- A word is written where the buffer has its index. After 16,385 words nothing is written and the index stays.
unfoldable pub add : Leaf → ℕ → Leaf
add g w = cond (leb g.next 16384) (leaf (set g.words g.next w) (g.next + 1)) g

unfoldable pub adds : Leaf → List ℕ → Leaf
adds g [] = g
adds g (w ∷ ws) = adds (add g w) ws

-- the words ws lead from one page to another of the same buffer
pub record Writes (p : Page) (ws : List ℕ) (q : Page) : Type 0 where
  pub same : q.out.ghost_name ≡ p.out.ghost_name
  pub is : leaf q.out.now q.at ≡ adds (leaf p.out.now p.at) ws

-- the words ws lead from the front of the buffer l to l', and n words were counted
pub record Fills (l ws l' : List ℕ) (n : ℕ) : Type 0 where
  pub is : leaf l' n ≡ adds (leaf l 0) ws

-- words n times over
unfoldable pub repeated : ℕ → List ℕ → List ℕ
repeated zero ws = []
repeated (suc n) ws = ws ++ repeated n ws

-- each word n times in a row
abbrev pub repeated_each : ℕ → List ℕ → List ℕ
repeated_each n ws = flat_map (λ w. repeated n (w ∷ [])) ws
