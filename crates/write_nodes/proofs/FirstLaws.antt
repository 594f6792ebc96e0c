-- What comes first in a document that was read from the words of a tree.
use mathlib.Core.Path.{◌≡◌, sym, ap, ◌∙◌}
use mathlib.Core.Bool.{Bool, true, false}
use mathlib.Core.List.{List}
use Prim.Native.Nat.{ℕ, suc, ◌+◌, ◌-◌, ◌*◌, ◌≤◌, ◌<◌}
use native.Mathlib.Omega.{arith}
use lib.ListN.{length}
use Rattle.model.specs.Answers.{passes}
use Rattle.model.specs.Tree.{Element, text, tag, Document, ε, ◌·◌, size, sizeD, symbol_at, size_at, span_at, of_tag, of_text, symbol_of}
use Rattle.model.specs.Tree.{Seen, children_by, children}
use Rattle.model.proofs.CheckLaws.{refuses≢passes, passes_inj, bind_inv}
use Rattle.model.proofs.SymbolLaws.{of_text_symbol, of_tag_symbol}
use Rattle.model.proofs.TreeLaws.{children_fill}
use Rattle.model.proofs.TreeView.{tag_symbol-is, View, ended, text_here, element_here, broken_here, view, children-step}

-- an element has a node
pub some_size : (e : Element) → 1 ≤ size e
unfolding size
some_size (text k w) = omega arith
some_size (tag a w d) = omega arith

module _ (t : List ℕ) (g : ℕ) where
  -- the document from node i up to node `end` is empty, or it begins with a text, or with an element
  pub data First (levels i end : ℕ) : Document → Type 0 where
    nothing : end ≤ i → First levels i end ε
    a_text : {d : Document} → i < end → symbol_of (symbol_at t i) ≡ of_text (symbol_at t i - 64) → size_at t i ≡ 1
        → children t g (length t) levels (i + 1) end true ≡ passes d
        → First levels i end (text (symbol_at t i - 64) (span_at t i) · d)
    an_element : {c d : Document} → symbol_of (symbol_at t i) ≡ of_tag (symbol_at t i) → symbol_at t i ≤ g → 0 < levels
        → size_at t i ≡ suc (sizeD c) → i + size_at t i ≤ end
        → children t g (length t) (levels - 1) (i + 1) (i + size_at t i) false ≡ passes c
        → children t g (length t) levels (i + size_at t i) end false ≡ passes d
        → First levels i end (tag (symbol_at t i) (span_at t i) c · d)

  first-seen : (levels i end : ℕ) (after_text : Bool) (s : Seen) {d : Document} → 4 * end ≤ length t → View t g levels i end after_text s
      → children_by t (children t g (length t)) levels i end s ≡ passes d → First levels i end d
  unfolding children_by
  first-seen levels i end after_text s w (ended h) e = rw (← passes_inj e) (nothing h)
  first-seen levels i end after_text s w (text_here lt y z p) e =
      let (d, k, q) = bind_inv _ _ e in
      rw (← passes_inj q) (a_text lt (of_text_symbol (symbol_at t i) y) z k)
  first-seen levels i end after_text s w (element_here n is lt le x y l) e =
      let (c, k, f) = bind_inv _ _ e in
      let (d, k', q) = bind_inv _ _ f in
      let (a, b) = (tag_symbol-is g (symbol_at t i)).0 y in
      let fill = children_fill t g (levels - 1) (i + 1) n false c (omega arith) (omega arith) k in
      let size : size_at t i ≡ suc (sizeD c) = omega arith in
      rw (← passes_inj q) (an_element (of_tag_symbol g (symbol_at t i) x y) b l size (omega arith)
      (sym (ap (λ (m : ℕ). children t g (length t) (levels - 1) (i + 1) m false) is) ∙ k)
      (sym (ap (λ (m : ℕ). children t g (length t) levels m end false) is) ∙ k'))
  first-seen levels i end after_text s w (broken_here _) e = absurd (refuses≢passes e)

  pub first : (levels i end : ℕ) (after_text : Bool) (d : Document) → 4 * end ≤ length t
      → children t g (length t) levels i end after_text ≡ passes d → First levels i end d
  first levels i end after_text d w e =
      first-seen levels i end after_text _ w (view t g levels i end after_text)
      (sym (children-step t g levels i end after_text (omega arith)) ∙ e)
