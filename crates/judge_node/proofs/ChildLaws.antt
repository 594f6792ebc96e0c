-- The state words of a node's children: one after another, and gathered.
use mathlib.Core.Path.{◌≡◌, refl, sym, ap, ◌∙◌}
use mathlib.Core.Logic.{◌≢◌, by_cases}
use mathlib.Core.Bool.{true, false}
use mathlib.Core.List.{List, [], ◌∷◌, ◌++◌, append_assoc, append-nil}
use Prim.Native.Nat.{ℕ, ◌+◌, ◌-◌, ◌*◌, ◌≤◌, ◌<◌, zero, suc}
use native.Mathlib.Decide.{dec_le}
use native.Mathlib.Numerals.{add-one}
use native.Mathlib.Omega.{arith}
use lib.ListN.{length, get_or, take, set, length-set, drop, length-drop}
use lib.Seq.{take-suc-set}
use Rattle.model.specs.Lists.{has}
use Rattle.model.specs.Run.{Item, items, child_words}
use Rattle.model.proofs.Tests.{eqb-false}
use Rattle.model.specs.Tree.{size_at}
use Rattle.judge_node.specs.Node.{Sized, words_between, words_inside}
use Rattle.judge_node.specs.ChildWords.{words_of}
use Rattle.judge_node.proofs.NodeLaws.{sized, words_done, words_more}
use Rattle.judge_node.specs.declared.children.ChildWords.{ChildWords}

-- ---- one after another

module _ (c : ChildWords) where
  long : 4 * c.end ≤ length c.nodes.tree.now
  long = omega (arith, c.within, c.nodes.shaped.long)

  pub words_end : c.end ≤ c.next → words_of c ≡ []
  words_end h = words_done c.nodes.tree.now c.nodes.states.now c.next c.end h

  pub words_next : c.next < c.end → {z : ℕ} → Sized c.nodes.tree.now c.next z
      → words_of c ≡ get_or c.nodes.states.now c.next 0 ∷ words_between c.nodes.tree.now c.nodes.states.now (c.next + z) c.end
  words_next h z = words_more c.nodes.states.now c.next c.end c.nodes.shaped z h long

  pub words-some : c.next < c.end → words_of c ≢ []
  words-some h e =
      let z = sized {i = c.next} c.nodes.shaped.sizes (omega (arith, long)) refl in
      absurd (omega (arith, ap length (sym (words_next h z) ∙ e)))

  pub words_left : words_of c ≢ [] → c.next < c.end
  words_left some = by_cases (dec_le c.end c.next) (λ h. absurd (some (words_end h))) (λ h. omega arith)

-- at most as many as the nodes
words-few : (n k : ℕ) (xs : List Item) (st : List ℕ) → length (child_words n k xs st) ≤ n
unfolding child_words
words-few zero k xs st = omega arith
words-few (suc n) k [] st = omega arith
words-few (suc n) k (x ∷ xs) [] = omega arith
words-few (suc n) zero (x ∷ xs) (s ∷ st) = omega (arith, words-few n (x.size - 1) xs st)
words-few (suc n) (suc k) (x ∷ xs) (s ∷ st) = omega (arith, words-few n k xs st)

pub few_words : (c : ChildWords) → length (words_of c) ≤ 4096
few_words c =
    omega (
      arith,
      words-few (c.end - c.next) 0 (drop c.next (items c.nodes.tree.now)) (drop c.next c.nodes.states.now),
      c.within,
      c.nodes.shaped.few,
    )

-- and as there are state words
words-fewer : (n k : ℕ) (xs : List Item) (st : List ℕ) → length (child_words n k xs st) ≤ length st
unfolding child_words
words-fewer zero k xs st = omega arith
words-fewer (suc n) k [] st = omega arith
words-fewer (suc n) k (x ∷ xs) [] = omega arith
words-fewer (suc n) zero (x ∷ xs) (s ∷ st) = omega (arith, words-fewer n (x.size - 1) xs st)
words-fewer (suc n) (suc k) (x ∷ xs) (s ∷ st) = omega (arith, words-fewer n k xs st)

pub words-within : (tree states : List ℕ) (i : ℕ) → length (words_inside tree states i) ≤ length states
words-within tree states i =
    let end = i + size_at tree i in
    omega (arith, words-fewer (end - (i + 1)) 0 (drop (i + 1) (items tree)) (drop (i + 1) states), length-drop (i + 1) states)

-- ---- gathered

-- So far the first n words, at most as many as the number of the node that comes next, are those of all but the rest; and a 0 is among
-- all where it is among the rest.
pub record Gathering (all rest : List ℕ) (room : ℕ) (words : List ℕ) (n at : ℕ) : Type 0 where
  pub long : length words ≡ room
  pub few : (n ≤ at) × (n ≤ room)
  pub left : n + length rest ≤ length words
  pub front : take n words ++ rest ≡ all
  pub full : has rest 0 ≡ has all 0

pub gather_none : (all words : List ℕ) (at : ℕ) → length all ≤ length words → Gathering all all (length words) words 0 at
gather_none all words at fits = record { long = refl; few = omega arith; left = omega arith; front = refl; full = refl }

module _ {all rest : List ℕ} {room : ℕ} {words : List ℕ} {n at : ℕ} (g : Gathering all rest room words n at) where
  pub gather_done : rest ≡ [] → (take n words ≡ all) × (has all 0 ≡ false)
  unfolding has
  gather_done e = (sym (append-nil (take n words)) ∙ rw e at g.front, sym (rw e at g.full))

  module _ {word : ℕ} {others : List ℕ} (e : rest ≡ word ∷ others) where
    pub gather_room : n < length words
    gather_room = omega (arith, g.left, ap length e)

    pub gather_zero : word ≡ 0 → has all 0 ≡ true
    unfolding has
    gather_zero z = sym (rw (e, z) at g.full)

    pub gather_more : word ≢ 0 → {next : ℕ} → at < next → Gathering all others room (set words n word) (n + 1) next
    unfolding has
    gather_more nz further =
        let front : take (n + 1) (set words n word) ≡ take n words ++ (word ∷ []) =
        rw (add-one n) (take-suc-set words n word gather_room) in
        record {
          long = length-set words n word ∙ g.long;
          few = omega (arith, g.few, g.long, gather_room, further);
          left = omega (arith, g.left, ap length e, length-set words n word);
          front = rw (front, append_assoc (take n words) (word ∷ []) others) (rw e at g.front);
          full = rw (e, eqb-false (λ (k : 0 ≡ word). nz (sym k))) at g.full;
        }
