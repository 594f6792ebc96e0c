-- The children of a node, one at a time: what they come to, by what stands at the first of them.
use mathlib.Core.Path.{◌≡◌, refl, sym, ap, ◌∙◌}
use mathlib.Core.Bool.{Bool, true, false}
use mathlib.Core.List.{List}
use Prim.Native.Nat.{ℕ, ◌+◌, ◌-◌, ◌*◌, ◌≤◌, ◌<◌}
use native.Mathlib.Omega.{arith}
use lib.ListN.{length}
use Rattle.std.specs.Prelude.{Ok, Err}
use Rattle.model.specs.Answers.{Checked, passes, refuses, ◌>>=◌}
use Rattle.model.specs.Tree.{Document, Seen, at_end, a_text, an_element, breaks, look, children_by, children}
use Rattle.model.specs.declared.Refusal.{Refusal}
use Rattle.model.specs.declared.Refusal.TheVariants.{Tree}
use Rattle.model.proofs.CheckLaws.{bind_passes, bind_refused}
use Rattle.model.proofs.TreeView.{View, text_here, element_here, view, children-seen}
use Rattle.tree.specs.Shape.{shape_of, shape_at}

-- ---- what the children come to

-- children that pass keep the rules, and of children that are refused the first failing node is
pub kept_inv : (c : Checked Document) → shape_of c ≡ Ok tt → (d : Document) × (c ≡ passes d)
unfolding shape_of
kept_inv (passes d) e = (d, refl)
kept_inv (refuses n i) e = let z : ◌≡◌ {A = ℕ} 0 1 = cc in absurd (omega arith)

pub refused_inv : (c : Checked Document) {r : Refusal} → shape_of c ≡ Err r → (n i : ℕ) × (c ≡ refuses n i) × (r ≡ Tree i)
unfolding shape_of
refused_inv (passes d) e = let z : ◌≡◌ {A = ℕ} 0 1 = cc in absurd (omega arith)
refused_inv (refuses n i) e = (n, i, refl, cc)

-- a document keeps the rules where one made of it does
shape-made : (c : Checked Document) (f : Document → Document) → shape_of (c >>= λ d. passes (f d)) ≡ shape_of c
unfolding shape_of ◌>>=◌
shape-made (passes d) f = refl
shape-made (refuses n i) f = refl

-- the children from node i on, by what stands there
module _ (t : List ℕ) (g levels i end : ℕ) (after_text : Bool) (fits : 4 * end ≤ length t) where
  by_seen : {s : Seen} → look t g levels i end after_text ≡ s
      → shape_at t g levels i end after_text ≡ shape_of (children_by t (children t g (length t)) levels i end s)
  by_seen e = ap shape_of (children-seen t g levels i end after_text (omega arith) e)

  pub shape-end : look t g levels i end after_text ≡ at_end → shape_at t g levels i end after_text ≡ Ok tt
  unfolding children_by shape_of
  shape-end e = by_seen e

  pub shape_text : look t g levels i end after_text ≡ a_text → shape_at t g levels i end after_text ≡ shape_at t g levels (i + 1) end true
  unfolding children_by
  shape_text e = by_seen e ∙ shape-made _ _

  pub shape_whole : {next : ℕ} → look t g levels i end after_text ≡ an_element next → shape_at t g (levels - 1) (i + 1) next false ≡ Ok tt
      → shape_at t g levels i end after_text ≡ shape_at t g levels next end false
  unfolding children_by
  shape_whole e w = let (inside, p) = kept_inv _ w in by_seen e ∙ ap shape_of (bind_passes _ p) ∙ shape-made _ _

  pub shape-inside : {next : ℕ} {r : Refusal} → look t g levels i end after_text ≡ an_element next
      → shape_at t g (levels - 1) (i + 1) next false ≡ Err r → shape_at t g levels i end after_text ≡ Err r
  unfolding children_by shape_of
  shape-inside e b = let (n, i, q, is) = refused_inv _ b in by_seen e ∙ ap shape_of (bind_refused _ q) ∙ ap Err (sym is)

  pub shape_breaks : look t g levels i end after_text ≡ breaks → shape_at t g levels i end after_text ≡ Err (Tree i)
  unfolding children_by shape_of
  shape_breaks e = by_seen e

-- a text, and an element, stand within their parent
module _ (t : List ℕ) (g levels i end : ℕ) (after_text : Bool) where
  pub text_within : look t g levels i end after_text ≡ a_text → i < end
  text_within e = go (rw e at (view t g levels i end after_text))
    where
      go : View t g levels i end after_text a_text → i < end
      go (text_here lt _ _ _) = lt

  pub element_within : {next : ℕ} → look t g levels i end after_text ≡ an_element next → (i < next) × (next ≤ end) × (0 < levels)
  element_within {next} e = go (rw e at (view t g levels i end after_text))
    where
      go : View t g levels i end after_text (an_element next) → (i < next) × (next ≤ end) × (0 < levels)
      go (element_here _ _ lt le _ _ l) = (lt, le, l)
