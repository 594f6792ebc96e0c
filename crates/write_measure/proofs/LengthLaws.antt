-- The number of bytes of a form: the sum of what each node adds to it.
use mathlib.Core.Path.{◌≡◌, refl}
use mathlib.Core.List.{List, [], ◌∷◌, ◌++◌}
use Prim.Native.Nat.{ℕ, ◌+◌, ◌*◌}
use native.Mathlib.Omega.{arith}
use lib.ListN.{length, length-append}
use Rattle.model.specs.Names.{name_of}
use Rattle.model.specs.Tree.{Span, Element, text, tag, Document, ε, ◌·◌, nodes, nodesD}
use Rattle.model.specs.Written.{tagged, written, writtenD, good_words}
use Rattle.model.proofs.DocumentLaws.{GoodNodes}
use Rattle.model.proofs.ListLaws.{every-cons, every_append}
use Rattle.write_nodes.proofs.SourceLaws.{source_length, good-within}

-- what a node adds to the form
unfoldable pub own : List ℕ → Element → ℕ
own list (text k w) = w.bytes
own list (tag a w ε) = 3 + length (name_of list a)
own list (tag a w (e · d)) = 5 + 2 * length (name_of list a)

unfoldable pub total : List ℕ → List Element → ℕ
total list [] = 0
total list (e ∷ es) = own list e + total list es

total-append : (list : List ℕ) (es fs : List Element) → total list (es ++ fs) ≡ total list es + total list fs
unfolding total
total-append list [] fs = omega arith
total-append list (e ∷ es) fs = omega (arith, total-append list es fs)

module _ (list source : List ℕ) where
  length_element : (a : ℕ) (w : Span) (d : Document)
      → length (written list source (tag a w d)) ≡ own list (tag a w d) + length (writtenD list source d)
  unfolding own written tagged
  length_element a w ε = omega (arith, length-append (name_of list a) (47 ∷ 62 ∷ []))
  length_element a w (e · d) =
      let name = name_of list a in
      let content = writtenD list source (e · d) in
      omega (
        arith,
        length-append name (62 ∷ (content ++ (60 ∷ 47 ∷ (name ++ (62 ∷ []))))),
        length-append content (60 ∷ 47 ∷ (name ++ (62 ∷ []))),
        length-append name (62 ∷ []),
      )

  mutual
    unfolding own total written nodes good_words

    pub length-written : (e : Element) → GoodNodes source (nodes e) → length (written list source e) ≡ total list (nodes e)
    length-written (text k w) h =
        let (u, v) = every-cons (good_words source) (text k w) [] h in
        omega (arith, source_length source w (good-within source w k u))
    length-written (tag a w d) h =
        let (u, v) = every-cons (good_words source) (tag a w d) (nodesD d) h in
        omega (arith, length_element a w d, length-writtenD d v)

    pub length-writtenD : (d : Document) → GoodNodes source (nodesD d) → length (writtenD list source d) ≡ total list (nodesD d)
    length-writtenD ε h = refl
    length-writtenD (e · d) h =
        let (u, v) = every_append (good_words source) (nodes e) (nodesD d) h in
        omega (
          arith,
          length-append (written list source e) (writtenD list source d),
          length-written e u,
          length-writtenD d v,
          total-append list (nodes e) (nodesD d),
        )
