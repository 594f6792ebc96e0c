-- Induction over the grammar of a form: what every step of it keeps holds of every element.
use mathlib.Core.Bool.{true}
use mathlib.Core.Path.{◌≡◌}
use mathlib.Core.List.{List, [], ◌∷◌, ◌++◌}
use Prim.Native.Nat.{ℕ, zero, suc, ◌+◌, ◌≤◌, ◌<◌}
use native.Mathlib.Omega.{arith}
use lib.ListN.{length, length-append}
use Rattle.model.specs.Tree.{Element, Document, ε, ◌·◌}
use Rattle.model.specs.Text.{text_node, tag_node}
use Rattle.model.specs.Written.{trimmed_text}
use Rattle.model.specs.Grammar.{TagOf, White, start_bytes, end_bytes, empty_bytes, ElementAt, empty, full, ContentAt, blank, text}
use Rattle.model.specs.Grammar.{TagsAt, no_more, more}

-- an element has at least two bytes
element_long : {names : List (List ℕ)} {i : ℕ} {s : List ℕ} {e : Element} → ElementAt names i s e → 2 ≤ length s
element_long (empty {name = name} {w} t v) =
    omega (arith, length-append name (w ++ (47 ∷ 62 ∷ [])), length-append w (47 ∷ 62 ∷ []))
element_long (full {name = name} {w} {w'} {s} t v c u) =
    omega (arith, length-append (start_bytes name w) (s ++ end_bytes name w'), length-append s (end_bytes name w'))

-- What is to hold of an element, of content, and of content from a tag on, is kept by each constructor.
pub record Kept (names : List (List ℕ)) (E : ℕ → List ℕ → Element → Type 0) (C T : ℕ → List ℕ → Document → Type 0) : Type 0 where
  pub if_empty : {i a : ℕ} {name w : List ℕ} → TagOf names a name → White w → E i (empty_bytes name w) (tag_node a ε)
  pub if_full : {i a : ℕ} {name w w' s : List ℕ} {d : Document} → TagOf names a name → White w → C (i + length (start_bytes name w)) s d
      → White w' → E i (start_bytes name w ++ (s ++ end_bytes name w')) (tag_node a d)
  pub if_blank : {i : ℕ} {w s : List ℕ} {d : Document} → White w → T (i + length w) s d → C i (w ++ s) d
  pub if_text : {i : ℕ} {w w' s : List ℕ} {d : Document} (t : List ℕ) → White w → trimmed_text t ≡ true → White w'
      → TagsAt names (i + length w + length t + length w') s d → T (i + length w + length t + length w') s d
      → C i (w ++ (t ++ (w' ++ s))) (text_node (i + length w) t · d)
  pub if_over : {i : ℕ} → T i [] ε
  pub if_more : {i : ℕ} {s t : List ℕ} {e : Element} {d : Document} → ElementAt names i s e → E i s e → C (i + length s) t d
      → T i (s ++ t) (e · d)

module _ {names : List (List ℕ)} {E : ℕ → List ℕ → Element → Type 0} {C T : ℕ → List ℕ → Document → Type 0} (kept : Kept names E C T) where
  -- the recursion is on a bound of the number of bytes
  mutual
    by_element : (k : ℕ) {i : ℕ} {s : List ℕ} {e : Element} → ElementAt names i s e → length s ≤ k → E i s e
    by_element zero x h = absurd (omega (arith, element_long x))
    by_element (suc k) (empty t v) h = kept.if_empty t v
    by_element (suc k) (full {name = name} {w} {w'} {s} t v c u) h =
        kept.if_full t v
        (by_content k c (omega (arith, length-append (start_bytes name w) (s ++ end_bytes name w'), length-append s (end_bytes name w')))) u

    by_content : (k : ℕ) {i : ℕ} {s : List ℕ} {d : Document} → ContentAt names i s d → suc (length s) < k → C i s d
    by_content zero c h = absurd (omega arith)
    by_content (suc k) (blank {w = w} {s} v ts) h = kept.if_blank v (by_tags k ts (omega (arith, length-append w s)))
    by_content (suc k) (text {w = w} {w'} {s} t v y u ts) h =
        let fewer : length s < k = omega (arith, length-append w (t ++ (w' ++ s)), length-append t (w' ++ s), length-append w' s) in
        kept.if_text t v y u ts (by_tags k ts fewer)

    by_tags : (k : ℕ) {i : ℕ} {s : List ℕ} {d : Document} → TagsAt names i s d → length s < k → T i s d
    by_tags zero ts h = absurd (omega arith)
    by_tags (suc k) no_more h = kept.if_over
    by_tags (suc k) (more {s = s} {t} x c) h =
        let l = length-append s t in
        kept.if_more x (by_element k x (omega arith)) (by_content k c (omega (arith, element_long x)))

  pub every_element : {i : ℕ} {s : List ℕ} {e : Element} → ElementAt names i s e → E i s e
  every_element {s = s} x = by_element (length s) x (omega arith)
