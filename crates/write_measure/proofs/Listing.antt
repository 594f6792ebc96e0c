-- The nodes of a document by the words of a tree, and the pass over them: 11, or the sum of what they add to the form.
use mathlib.Core.Path.{◌≡◌, refl, sym, ◌∙◌}
use mathlib.Core.Logic.{◌≢◌}
use mathlib.Core.Bool.{Bool, true, false, cond}
use mathlib.Core.List.{List, [], ◌∷◌, ◌++◌}
use Prim.Native.Nat.{ℕ, suc, ◌+◌, ◌-◌, ◌*◌, ◌≤◌, ◌<◌}
use native.Mathlib.Nat.{add-zero}
use native.Mathlib.Numerals.{add-one}
use native.Mathlib.Omega.{arith}
use borrow.Author.Tests.{ne_eqb}
use lib.Dec.{eqb}
use lib.ListN.{length}
use Rattle.std.specs.Prelude.{Some, None}
use Rattle.model.specs.Answers.{passes, refuses, ◌>>◌, ◌>>=◌}
use Rattle.model.specs.Names.{names_of}
use Rattle.model.specs.Tree.{Span, Element, text, tag, Document, ε, ◌·◌, size, sizeD, nodes, nodesD, symbol_at, size_at, span_at, of_tag}
use Rattle.model.specs.Tree.{symbol_of, children}
use Rattle.model.specs.Written.{good_words, texts_checked}
use Rattle.model.proofs.SymbolLaws.{text≢tag, tag_said}
use Rattle.model.proofs.Tests.{Told, yea, nay, told, same, eqb_no}
use Rattle.model.proofs.TreeLaws.{length-nodesD}
use Rattle.write_nodes.specs.Nodes.{node_at, TagOf}
use Rattle.write_nodes.proofs.FirstLaws.{First, a_text, an_element, first, some_size}
use Rattle.write_measure.specs.Lengths.{own_by, own_bytes, added, measured}
use Rattle.write_measure.proofs.LengthLaws.{own, total}

module _ (list source tree : List ℕ) where
  -- node i is the element e
  pub record Is (i : ℕ) (e : Element) : Type 0 where
    pub adds : own_bytes list source (node_at tree i) ≡ cond (good_words source e) (Some (own list e)) None
    pub named : TagOf list (symbol_at tree i)

  -- the nodes from node i on are these elements
  abbrev pub Listed : ℕ → List Element → Type 0
  Listed i [] = Unit {0}
  Listed i (e ∷ es) = Is i e × Listed (i + 1) es

  listed-append : (i j : ℕ) (es fs : List Element) → i + length es ≡ j → Listed i es → Listed j fs → Listed i (es ++ fs)
  listed-append i j [] fs e h k = let z : i ≡ j = omega arith in rw z k
  listed-append i j (x ∷ es) fs e h k = (h.0, listed-append (i + 1) j es fs (omega arith) h.1 k)

  -- what an element adds, by its size
  adds_element : (i : ℕ) (c : Document) → symbol_of (symbol_at tree i) ≡ of_tag (symbol_at tree i) → size_at tree i ≡ suc (sizeD c)
      → let e = tag (symbol_at tree i) (span_at tree i) c in
      own_bytes list source (node_at tree i) ≡ cond (good_words source e) (Some (own list e)) None
  unfolding own size own_bytes own_by good_words
  adds_element i ε h z = rw (h, z)
  adds_element i (e · c) h z = rw (h, ne_eqb (size_at tree i) 1 (λ q. omega (arith, some_size e)))

  module _ (tags : ℕ) (names : names_of list ≡ passes tags) where
    -- a document is listed where it was read
    abbrev pub Read : Document → Type 0
    Read d = (levels i end : ℕ) (after_text : Bool) → 4 * end ≤ length tree → children tree tags
        (length tree) levels i end after_text ≡ passes d → Listed i (nodesD d)

    text_listed : {levels i end k : ℕ} {w : Span} {d : Document} → 4 * end ≤ length tree → First tree tags levels i end
        (text k w · d) → Read d → Listed i (text k w ∷ nodesD d)
    unfolding own own_bytes own_by good_words
    text_listed {levels} {i} {end} b (a_text lt s _ read) rest = (
      record { adds = rw s; named = λ a h. absurd (text≢tag (sym s ∙ h)) },
      rest levels (i + 1) end true b read,
    )

    element_listed : {levels i end a : ℕ} {w : Span} {c d : Document} → 4 * end ≤ length tree → First tree tags levels i end
        (tag a w c · d) → Read c → Read d
        → Listed i (tag a w c ∷ (nodesD c ++ nodesD d))
    element_listed {levels} {i} {end} {c = c} {d} b (an_element s few l z le inside after) content rest = (
      record {
        adds = adds_element i c s z;
        named = λ a h. let (is, some, _) = tag_said _ h in record
            { tags = tags; names = names; some = some; few = omega arith };
      },
      listed-append (i + 1) (i + size_at tree i) (nodesD c) (nodesD d) (omega (arith, length-nodesD c))
          (content (levels - 1) (i + 1) (i + size_at tree i) false (omega arith) inside)
          (rest levels (i + size_at tree i) end false b after),
    )

    mutual
      unfolding nodes

      pub first-listed : (e : Element) (d : Document) (levels i end : ℕ) → 4 * end ≤ length tree → First tree tags levels i end
          (e · d) → Read d → Listed i (nodes e ++ nodesD d)
      first-listed (text k w) d levels i end b f rest = text_listed b f rest
      first-listed (tag a w c) d levels i end b f rest = element_listed b f (λ l j n p h e. listed c l j n p h e) rest

      pub listed : (d : Document) → Read d
      listed ε levels i end after_text b e = tt
      listed (x · d) levels i end after_text b e = first-listed x d levels i end b (first tree tags levels i end after_text (x · d) b e)
          (λ l j n p h k. listed d l j n p h k)

  -- ---- the pass over them

  pub measured-listed : (es : List Element) (i sum : ℕ) → Listed i es → measured list source tree (length es) i sum ≡
      (texts_checked source i es >> passes (sum + total list es))
  unfolding measured added texts_checked total ◌>>◌ ◌>>=◌
  measured-listed [] i sum h = rw add-zero
  measured-listed (e ∷ es) i sum h = rw h.0.adds
      (go (good_words source e) (measured-listed es (i + 1) (sum + own list e) h.1))
    where
      sums : sum + own list e + total list es ≡ sum + (own list e + total list es)
      sums = omega arith

      go : (b : Bool) → measured list source tree (length es) (i + 1) (sum + own list e) ≡
          (texts_checked source (i + 1) es >> passes (sum + own list e + total list es))
          → (added i sum (cond b (Some (own list e)) None) >>= measured list source tree (length es) (i + 1))
          ≡ (cond b (texts_checked source (suc i) es) (refuses 11 i) >> passes (sum + (own list e + total list es)))
      go true r = r ∙ rw (add-one i, sums)
      go false r = refl

  pub listed-named : (es : List Element) (i j : ℕ) → Listed i es → i ≤ j → j < i + length es → TagOf list (symbol_at tree j)
  listed-named [] i j h a b = absurd (omega arith)
  listed-named (e ∷ es) i j h a b = go (told (eqb i j)) (λ c. listed-named es (i + 1) j h.1 c (omega arith))
    where
      go : Told (eqb i j) → (i + 1 ≤ j → TagOf list (symbol_at tree j)) → TagOf list (symbol_at tree j)
      go (yea q) r = let z = same i j q in rw (← z) h.0.named
      go (nay q) r = let z : i ≢ j = eqb_no q in r (omega arith)
