-- The nodes of a tree as a run looks at them: each of them by its words, and the state words of its children.
use mathlib.Core.Path.{◌≡◌, refl, ap, ◌∙◌}
use mathlib.Core.Bool.{Bool, true, false, cond}
use mathlib.Core.List.{List, [], ◌∷◌, ◌++◌, append_assoc, append-nil}
use Prim.Native.Nat.{ℕ, zero, suc, ◌+◌, ◌-◌, ◌*◌, ◌≤◌, ◌<◌}
use native.Mathlib.Nat.{sub-zero}
use native.Mathlib.Numerals.{add-one}
use native.Mathlib.Omega.{arith}
use lib.Dec.{ltb}
use lib.ListN.{length, get_or, drop, length-drop}
use lib.Seq.{drop-cons, drop-drop}
use Rattle.model.specs.Tree.{Element, text, tag, Document, ε, ◌·◌, size, sizeD, words, wordsD, is_text, Keeps, KeepsD, symbol_at, size_at}
use Rattle.model.specs.Tree.{tree_of}
use Rattle.model.specs.Sheet.{Rule}
use Rattle.model.specs.Run.{gist, Item, items, child_words, ran, put, judge_text, judge_element, judge_node}
use Rattle.model.specs.Answers.{passes}
use Rattle.model.proofs.TreeLaws.{length-words, tree_passes}
use Rattle.judge_node.specs.Node.{Sizes, Sized, Shaped, words_between, node_targets, node_looks}

-- ---- nodes by their words

abbrev item_at : List ℕ → ℕ → Item
item_at t i = record { symbol = symbol_at t i; size = size_at t i }

pub items_at : (t : List ℕ) (i : ℕ) → 4 * (i + 1) ≤ length t → drop i (items t) ≡ item_at t i ∷ drop (i + 1) (items t)
unfolding items
items_at [] i h = absurd (omega arith)
items_at (a ∷ []) i h = absurd (omega arith)
items_at (a ∷ b ∷ []) i h = absurd (omega arith)
items_at (a ∷ b ∷ c ∷ []) i h = absurd (omega arith)
items_at (a ∷ b ∷ c ∷ d ∷ t) zero h = refl
items_at (a ∷ b ∷ c ∷ d ∷ t) (suc i) h =
    let e : 4 * suc i ≡ suc (suc (suc (suc (4 * i)))) = omega arith in
    let f : 4 * suc i + 1 ≡ suc (suc (suc (suc (4 * i + 1)))) = omega arith in
    rw (f, e, add-one (suc i)) (rw (add-one i) at (items_at t i (omega arith)))

-- each item has a symbol of a tag or a text and a size, and ends within the list
abbrev Within : List Item → Type 0
Within [] = Unit {0}
Within (x ∷ xs) = (1 ≤ x.symbol) × (x.symbol ≤ 66) × (1 ≤ x.size) × (x.size ≤ suc (length xs)) × Within xs

within-drop : (i : ℕ) (l : List Item) → Within l → Within (drop i l)
within-drop zero l h = h
within-drop (suc i) [] h = h
within-drop (suc i) (x ∷ l) (_, _, _, _, h) = within-drop i l h

-- so it is with the items of an element's words in front of others, which are as many as its nodes
mutual
  unfolding words size items

  within : {g : ℕ} (levels : ℕ) (e : Element) (t : List ℕ) → g ≤ 64 → Keeps g levels e → Within (items t)
      → Within (items (words e ++ t)) × (length (items (words e ++ t)) ≡ size e + length (items t))
  within levels (text k w) t few (l, m) h = ((omega arith, omega arith, omega arith, omega arith, h), omega arith)
  within levels (tag a w d) t few (l, m, _, k) h =
      let (rest, more) = withinD (levels - 1) false d t few k h in
      ((l, omega arith, omega arith, omega arith, rest), omega arith)

  withinD : {g : ℕ} (levels : ℕ) (after_text : Bool) (d : Document) (t : List ℕ) → g ≤ 64 → KeepsD g levels after_text d → Within (items t)
      → Within (items (wordsD d ++ t)) × (length (items (wordsD d ++ t)) ≡ sizeD d + length (items t))
  withinD levels after_text ε t few k h = (h, omega arith)
  withinD levels after_text (e · d) t few (_, k, m) h =
      let (rest, more) = withinD levels (is_text e) d t few m h in
      let (all, most) = within levels e (wordsD d ++ t) few k rest in
      rw (append_assoc (words e) (wordsD d) t) (all, omega arith)

pub tree_shaped : {g : ℕ} {t : List ℕ} {e : Element} → g ≤ 64 → tree_of g t ≡ passes e → Shaped t (size e)
unfolding items
tree_shaped {g} {t} {e} few p =
    let (w, o) = (tree_passes g few t e).0 p in
    let long : length t ≡ 4 * size e = ap length w ∙ length-words e in
    let (ranges, all) = rw (append-nil (words e), ← w) at (within 32 e [] few o.keeps tt) in
    record {
      long = long;
      all = omega arith;
      few = o.few;
      symbols = λ i h. let (a, b, _, _, _) = rw (items_at t i (omega arith)) at (within-drop i (items t) ranges) in (a, b);
      sizes = record {
        each = λ i h.
            let (_, _, a, b, _) = rw (items_at t i h) at (within-drop i (items t) ranges) in
            (a, omega (arith, length-drop (i + 1) (items t)));
      };
    }

-- the size of a node
pub sized : {tree : List ℕ} {i size : ℕ} → Sizes tree → 4 * (i + 1) ≤ length tree → size ≡ size_at tree i → Sized tree i size
sized {i = i} all h e = let (some, within) = all.each i h in record { is = e; some = omega arith; within = rw e within }

-- ---- the children of a node

-- nodes inside the last child are passed over at once
jump : (n k : ℕ) (xs : List Item) (st : List ℕ) → k ≤ length xs → k ≤ length st
    → child_words n k xs st ≡ child_words (n - k) 0 (drop k xs) (drop k st)
unfolding child_words
jump n zero xs st h l = rw sub-zero
jump zero (suc k) xs st h l = let e : 0 - suc k ≡ 0 = omega arith in rw e
jump (suc n) (suc k) [] st h l = absurd (omega arith)
jump (suc n) (suc k) (x ∷ xs) [] h l = absurd (omega arith)
jump (suc n) (suc k) (x ∷ xs) (s ∷ st) h l =
    let e : suc n - suc k ≡ n - k = omega arith in rw e (jump n k xs st (omega arith) (omega arith))

pub words_done : (tree states : List ℕ) (first end : ℕ) → end ≤ first → words_between tree states first end ≡ []
unfolding child_words
words_done tree states first end h = let e : end - first ≡ 0 = omega arith in rw e

pub words_more : {tree : List ℕ} (states : List ℕ) (first end : ℕ) {z : ℕ} → Shaped tree (length states) → Sized tree first z → first < end
    → 4 * end ≤ length tree → words_between tree states first end ≡ get_or states first 0 ∷ words_between tree states (first + z) end
unfolding child_words
words_more {tree} states first end {z} t sized h k =
    let e : end - first ≡ suc (end - first - 1) = omega arith in
    let f : end - first - 1 - (z - 1) ≡ end - (first + z) = omega (arith, sized.some) in
    let g : first + 1 + (z - 1) ≡ first + z = omega (arith, sized.some) in
    let (xs, st) : List Item × List ℕ = (drop (first + 1) (items tree), drop (first + 1) states) in
    let long : (z - 1 ≤ length xs) × (z - 1 ≤ length st) = simp length-drop (omega (arith, sized.within, t.long, t.all)) in
    rw (e, items_at tree first (omega arith), drop-cons states first 0 (omega (arith, t.long)), ← add-one first, ← sized.is)
    (rw (jump (end - first - 1) (z - 1) xs st long.0 long.1) (simp (drop-drop, f, g)))

-- ---- what the run makes of a node

pub node_judged : (R : List Rule) (tree states : List ℕ) (i m : ℕ)
    → judge_node R (item_at tree i) (drop (i + 1) (items tree)) (ran (drop (i + 1) states) m)
    ≡ put (gist (node_targets R tree states i)) (node_looks R tree states i) (drop (i + 1) states) m
unfolding judge_node judge_text judge_element node_targets node_looks
node_judged R tree states i m =
    let e : size_at tree i - 1 ≡ i + size_at tree i - (i + 1) = omega arith in
    rw e (go (ltb 64 (symbol_at tree i)) _ _ _ _)
  where
    go : (b : Bool) (l k : List ℕ) (x y : ℕ)
        → cond b (put (gist l) x (drop (i + 1) states) m) (put (gist k) y (drop (i + 1) states) m)
        ≡ put (gist (cond b l k)) (cond b x y) (drop (i + 1) states) m
    go true l k x y = refl
    go false l k x y = refl
