-- What stands at a node, by what its symbol says and the tests on its size.
use mathlib.Core.Path.{◌≡◌, refl}
use mathlib.Core.Bool.{Bool, cond, not, ◌&&◌, and_assoc}
use mathlib.Core.List.{List}
use Prim.Native.Nat.{ℕ, ◌+◌, ◌<◌}
use borrow.Author.Tests.{lt-leb}
use lib.Dec.{eqb, leb, ltb}
use Rattle.std.specs.Prelude.{Option, Some, None, Ok, Err}
use Rattle.model.specs.Tree as model
use Rattle.model.specs.Tree.{symbol_at, size_at, tag_symbol, of_tag, of_text, of_nothing, symbol_of, at_end, a_text, an_element, breaks}
use Rattle.model.specs.Tree.{look}
use Rattle.model.specs.declared.Refusal.{Refusal}
use Rattle.model.specs.declared.Refusal.TheVariants.{Tree}
use Rattle.model.proofs.SymbolLaws.{text_said, tag_said, nothing_text, nothing_tag}
use Rattle.tree_look.specs.Looked.{looked}
use Rattle.tree_look.specs.declared.Seen.{Seen}
use Rattle.tree_look.specs.declared.Seen.TheVariants.{Text, Element}

module _ (t : List ℕ) (g levels i end : ℕ) (after_text : Bool) (within : i < end) {size : ℕ} (sized : size ≡ size_at t i) where
  pub text_looked : {k : ℕ} {b : Bool} → symbol_of (symbol_at t i) ≡ of_text k → (eqb size 1 && not after_text) ≡ b
      → cond b a_text breaks ≡ look t g levels i end after_text
  unfolding look
  text_looked s e = rw (lt-leb _ _ within, (text_said _ s).3, ← sized, e)

  pub tag_looked : {a : ℕ} {b : Bool} → symbol_of (symbol_at t i) ≡ of_tag a
      → (tag_symbol g a && ((ltb 0 levels && leb 1 size) && leb (i + size) end)) ≡ b
      → cond b (an_element (i + size)) breaks ≡ look t g levels i end after_text
  unfolding look
  tag_looked {a} s e =
      let (is, _, no_text) = tag_said _ s in
      rw (lt-leb _ _ within, no_text, is, ← sized, ← and_assoc (ltb 0 levels), e)

  pub nothing_looked : symbol_of (symbol_at t i) ≡ of_nothing → breaks ≡ look t g levels i end after_text
  unfolding look
  nothing_looked s = rw (lt-leb _ _ within, nothing_text _ s, nothing_tag _ g s)

-- ---- what the answer at node i says of the model's, by the arm that is taken

module _ (i : ℕ) {o : Option Seen} (m : model.Seen) (e : Ok o ≡ looked i m) where
  pub seen_end : o ≡ None → m ≡ at_end
  seen_end n = go m e
    where
      go : (m : model.Seen) → Ok o ≡ looked i m → m ≡ at_end
      go at_end e = refl
      go a_text e = cc
      go (an_element next) e = cc
      go breaks e = cc

  module _ {s : Seen} (is : o ≡ Some s) where
    pub seen_text : s ≡ Text → m ≡ a_text
    seen_text t = go m e
      where
        go : (m : model.Seen) → Ok o ≡ looked i m → m ≡ a_text
        go at_end e = cc
        go a_text e = refl
        go (an_element next) e = cc
        go breaks e = cc

    pub seen_element : {next : ℕ} → s ≡ Element next → m ≡ an_element next
    seen_element {next} t = go m e
      where
        go : (m : model.Seen) → Ok o ≡ looked i m → m ≡ an_element next
        go at_end e = cc
        go a_text e = cc
        go (an_element n) e = cc
        go breaks e = cc

pub seen_breaks : (i : ℕ) {r : Refusal} (m : model.Seen) → Err r ≡ looked i m → (m ≡ breaks) × (r ≡ Tree i)
seen_breaks i at_end e = cc
seen_breaks i a_text e = cc
seen_breaks i (an_element next) e = cc
seen_breaks i breaks e = (refl, cc)
