-- The whole call: what it says and writes at each refusal and where there is none, and the bound of its looks.
use mathlib.Core.Path.{◌≡◌, refl, sym, ap, ◌∙◌}
use mathlib.Core.List.{List, ◌++◌}
use Prim.Native.Nat.{ℕ, ◌*◌, ◌/◌, ◌≤◌, ◌<◌}
use native.Mathlib.Omega.{arith}
use lib.ListN.{length, get_or, take, drop}
use lib.Seq.{length-take-le, drop_at}
use borrow.Author.Tests.{le-leb, lt-leb}
use Rattle.std.specs.Prelude.{Ok, Err}
use Rattle.model.specs.declared.Refusal.{Refusal}
use Rattle.model.specs.Answers.{Said, Answer, refusal, said_refusal, said, passes, refuses, looks_in}
use Rattle.model.specs.Answers.{◌>>=◌, ◌>>◌, require, room_for, buffer_after}
use Rattle.model.specs.Tree.{Element, size, tree_of}
use Rattle.model.specs.Sheet.{Sheet, sheet_of}
use Rattle.model.specs.Run.{items, run, verdict}
use Rattle.model.specs.Calls.{tree_said, sheet_said, judge, verdict_of, judge_said, first_states, states_after, judge_states}
use Rattle.model.proofs.TreeLaws.{length-words, tree_passes}
use Rattle.model.proofs.Demand2.{looks_bound}
use Rattle.model.specs.Index.{sheet_in, index_words, index_after, Indexed}
use Rattle.model.proofs.PassedLaws.{passes_in, in_range, tags-word, rules-word}
use Rattle.model.proofs.Answered as answered
use Rattle.judge_run.specs.Run.{Form, verdict_on, states_on}

-- ---- a sheet and a tree that pass

-- A sheet that passes has its index at the front of the buffer.
pub sheet-indexed : (s old : List ℕ) {index : List ℕ} {r : Answer} {n : ℕ} → said r ≡ sheet_said s → index ≡ index_after old s
    → r ≡ Ok n → Indexed s index
unfolding sheet_said index_after buffer_after ◌>>=◌
sheet-indexed s old {index} e ei c =
    let (t, p, _) = answered.counted (λ t. length s) (sheet_of s) e c in
    let (ok, _) = passes_in p in
    let ws = index_words (sheet_in s) in
    let is : index ≡ ws ++ drop (length ws) old = rw ok.as_sheet at ei in
    record { sheet = ok; there = record { stands = rw (is, drop_at ws (drop (length ws) old) (length ws) refl); ends = omega arith } }

-- a tree is checked over the sheet's tags
by_tags : {s index : List ℕ} (tree : List ℕ) → Indexed s index → tree_of (sheet_in s).tags tree ≡ tree_of (get_or s 4 0) tree
by_tags tree h = ap (λ (g : ℕ). tree_of g tree) (sym (tags-word h.sheet))

pub tree_counted : {s index : List ℕ} (tree : List ℕ) → Indexed s index → {g : ℕ} → g ≡ get_or s 4 0 → {r : Answer} {n : ℕ}
    → said r ≡ tree_said g tree → r ≡ Ok n → Form s tree n
tree_counted {s} tree h eg e c =
    let (f, p, n) = answered.tree_counted (get_or s 4 0) tree (rw eg at e) c in
    record { form = f; as_tree = by_tags tree h ∙ p; nodes = n }

-- as many nodes as state words in the front of a buffer
pub front-form : {s tree : List ℕ} {n : ℕ} (states : List ℕ) → Form s tree n → n ≤ length states → Form s tree (length (take n states))
front-form {n = n} states f h = rw (length-take-le n states h) f

-- ---- the call

module _ (sheet tree states : List ℕ) where
  -- its three promises, of what is said and written; a refusal says no looks
  abbrev Promises : Said → List ℕ → Type 0
  Promises x out = (x ≡ judge_said sheet tree states) ×
      ((out ≡ judge_states sheet tree states) × (looks_in x ≤ 2 * (length tree / 4) * get_or sheet 5 0))

  at-sheet : {n i : ℕ} → sheet_of sheet ≡ refuses n i → Promises (refusal n i) states
  unfolding judge_said judge_states judge verdict_of states_after ◌>>=◌
  at-sheet e = rw e (refl, (refl, omega arith))

  at-nodes : {s : Sheet} {e : Element} → sheet_of sheet ≡ passes s → tree_of s.tags tree ≡ passes e → size e ≤ length states
      → (verdict s.final (run s.rules (items tree)) ≡ judge_said sheet tree states) ×
      (first_states (size e) (run s.rules (items tree)) ++ drop (size e) states ≡ judge_states sheet tree states)
  unfolding judge_said judge_states judge verdict_of states_after ◌>>=◌ ◌>>◌ require room_for
  at-nodes ok tok h = rw (ok, tok, le-leb _ _ h) (refl, refl)

  -- the sheet's check
  pub sheet-refused : {r : Answer} {x : Refusal} → said r ≡ sheet_said sheet → r ≡ Err x → Promises (said_refusal x) states
  unfolding sheet_said
  sheet-refused e c = let (n, i, p, f) = answered.refused (λ s. length sheet) (sheet_of sheet) e c in rw f (at-sheet p)

  module _ {index : List ℕ} (h : Indexed sheet index) where
    -- the tree's
    pub tree_refused : {g : ℕ} → g ≡ get_or sheet 4 0 → {r : Answer} {x : Refusal} → said r ≡ tree_said g tree → r ≡ Err x
        → Promises (said_refusal x) states
    unfolding judge_said judge_states judge verdict_of states_after ◌>>=◌
    tree_refused eg e c =
        let (i, p, f) = answered.tree_refused (get_or sheet 4 0) tree (rw eg at e) c in
        rw (f, h.sheet.as_sheet, by_tags tree h ∙ p) (refl, (refl, omega arith))

    module _ {n : ℕ} (f : Form sheet tree n) where
      -- the room for the states
      pub room-refused : length states < n → Promises (refusal 22 n) states
      unfolding judge_said judge_states judge verdict_of states_after ◌>>=◌ ◌>>◌ require room_for
      room-refused l = rw (h.sheet.as_sheet, f.as_tree, f.nodes, lt-leb n (length states) l) (refl, (refl, omega arith))

      -- the nodes judged, with their state words in the first n; at most 2 × nodes × rules looks
      pub nodes_judged : n ≤ length states → {x : Said} {out : List ℕ} → x ≡ verdict_on sheet tree
          → out ≡ states_on sheet tree (take n states) → Promises x (out ++ drop n states)
      nodes_judged l e eo =
          let ok = h.sheet.as_sheet in
          let tok = f.as_tree in
          let enough : size f.form ≤ length states = omega (arith, f.nodes) in
          let (a, b) = at-nodes ok tok enough in
          let (w, _) = (tree_passes (sheet_in sheet).tags (in_range h.sheet).few_tags tree f.form).0 tok in
          let nodes : length tree / 4 ≡ size f.form = omega (arith, ap length w, length-words f.form) in
          let few = rw (← nodes, ← rules-word h.sheet) at (looks_bound sheet tree states ok tok enough) in
          (e ∙ a, (rw (eo, length-take-le n states l, ← f.nodes) b, rw (e ∙ a) few))
