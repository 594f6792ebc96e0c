-- The run's loop over the nodes of a form, and its outcome by its case.
use mathlib.Core.Path.{◌≡◌, refl, ◌∙◌, subst}
use mathlib.Core.Logic.{by_cases}
use mathlib.Core.List.{List, [], ◌∷◌}
use Prim.Native.Nat.{ℕ, zero, suc, ◌+◌, ◌-◌, ◌*◌, ◌^◌, ◌≤◌, ◌<◌}
use native.Mathlib.Decide.{dec_le}
use native.Mathlib.Nat.{zero-add, mul-le-mul_right}
use native.Mathlib.Omega.{arith}
use lib.ListN.{length, get_or, get_or-eq_default, drop, set, length-set, drop_of_length-le}
use lib.Seq.{drop-cons, drop-set-lt, get_or-set_same, get_or-set_other, drop-length}
use mir.Syntax.{w32}
use mir.Val.{Fits}
use Rattle.std.specs.Prelude.{Ok, Err, Option, None, Some}
use Rattle.model.specs.Answers.{Said, Answer, said_refusal}
use Rattle.model.specs.declared.Refusal.{Refusal}
use Rattle.model.specs.Tree.{Element, text, tag, size}
use Rattle.model.specs.Sheet.{Rule}
use Rattle.model.specs.Run.{Reached, nothing, just, several, gist, Item, items, ran, two_at, put, judge_node, run, root_verdict}
use Rattle.model.specs.Run.{verdict}
use Rattle.model.specs.Calls.{first_states}
use Rattle.model.specs.Index.{sheet_in, rules_in}
use Rattle.model.proofs.TreeLaws.{tree_passes}
use Rattle.model.proofs.RunLaws.{over_formed, RunSays, run-says}
use Rattle.model.proofs.PassedLaws.{in_range}
use Rattle.indexed.specs.declared.IndexedSheet.{IndexedSheet}
use Rattle.judge_rules.specs.declared.targets.Found.{Found}
use Rattle.judge_contents.specs.Content.{FindsContent}
use Rattle.judge_node.specs.Node.{Shaped, Small, node_targets, node_looks}
use Rattle.judge_node.specs.Judging.{Judging}
use Rattle.judge_rules.specs.Found.{Finds}
use Rattle.judge_node.proofs.NodeLaws.{items_at, tree_shaped, node_judged}
use Rattle.judge_states.specs.States.{Word, WordOf}
use Rattle.judge_run.specs.Run.{Form, Ends, verdict_on, states_on}

-- ---- the loop

-- a word is put before those of the later nodes; none says that two states are reached
pub put_word : (g : Reached) {o : Option ℕ} {w : ℕ} → Word g o → o ≡ Some w → (looks : ℕ) (st : List ℕ) (m : ℕ) →
    (put g looks st m ≡ ran (w ∷ st) (looks + m)) × (w ≤ 64)
put_word nothing {w = w} e k looks st m = let z : w ≡ 0 = cc in (rw z, omega arith)
put_word (just q) {w = w} (e, small) k looks st m = let z : w ≡ suc q = cc in (rw z, omega arith)
put_word several e k looks st m = let z : ◌≡◌ {A = ℕ} 0 1 = cc in absurd (omega arith)

pub put_two : (g : Reached) {o : Option ℕ} → Word g o → o ≡ None → (looks : ℕ) (st : List ℕ) (m : ℕ) → put g looks st m ≡ two_at 0
put_two nothing e t looks st m = let z : ◌≡◌ {A = ℕ} 0 1 = cc in absurd (omega arith)
put_two (just q) (e, small) t looks st m = let z : ◌≡◌ {A = ℕ} 0 1 = cc in absurd (omega arith)
put_two several e t looks st m = refl

-- a later node that reaches two states decides
two_decides : (R : List Rule) (j k : ℕ) (l : List Item) → j ≤ length l → run R (drop j l) ≡ two_at k → run R l ≡ two_at (j + k)
unfolding run judge_node
two_decides R zero k l h e = rw (zero-add k) e
two_decides R (suc j) k [] h e = absurd (omega arith)
two_decides R (suc j) k (x ∷ l) h e = let f : suc (j + k) ≡ suc j + k = omega arith in rw (two_decides R j k l (omega arith) e, ← f)

-- a word of a state or 0 for one node more
small_set : (states : List ℕ) {i j w : ℕ} → i < length states → suc i ≡ j → Small j states → w ≤ 64 → Small i (set states i w)
small_set states {i} {w = w} room next later few = record { each = λ k h. by_cases (dec_le k i) (here k h) (there k) }
  where
    here : (k : ℕ) → i ≤ k → k ≤ i → get_or (set states i w) k 0 ≤ 64
    here k h l = let e : k ≡ i = omega arith in rw (e, get_or-set_same states i w 0 room) few

    there : (k : ℕ) → (k ≤ i → ⊥) → get_or (set states i w) k 0 ≤ 64
    there k n = rw (get_or-set_other states i k w 0 (λ e. n (omega arith))) (later.each k (omega arith))

-- the nodes from i on have their state words, found with these looks
pub record Running (R : List Rule) (tree : List ℕ) (n i : ℕ) (states : List ℕ) (looks : ℕ) : Type 0 where
  pub shaped : Shaped tree n
  pub within : i ≤ n
  pub long : length states ≡ n
  pub small : Small i states
  pub so_far : run R (drop i (items tree)) ≡ ran (drop i states) looks
  pub few : looks ≤ (n - i) * 2 ^ 43

pub running_none : (R : List Rule) {tree : List ℕ} (states : List ℕ) → Shaped tree (length states)
    → Running R tree (length states) (length states) states 0
unfolding run
running_none R {tree} states t =
    record {
      shaped = t;
      within = omega arith;
      long = refl;
      small = record { each = λ k h. rw (get_or-eq_default states 0 {n = k} h) (omega arith) };
      so_far = rw (drop_of_length-le (items tree) {i = length states} (omega (arith, t.all)), drop-length states);
      few = omega arith;
    }

pub running_all : {R : List Rule} {tree : List ℕ} {n i : ℕ} {states : List ℕ} {looks : ℕ} → Running R tree n i states looks → i ≤ 0
    → run R (items tree) ≡ ran states looks
running_all {i = i} g h = let z : i ≡ 0 = omega arith in rw z at g.so_far

module _ {R : List Rule} {tree : List ℕ} {n i : ℕ} {states : List ℕ} {looks : ℕ} (g : Running R tree n i states looks) (more : 0 < i) where
  -- what node i − 1 reaches
  abbrev reach : Reached
  reach = gist (node_targets R tree states (i - 1))

  -- it is judged before those
  judged : run R (drop (i - 1) (items tree)) ≡ put reach (node_looks R tree states (i - 1)) (drop i states) looks
  unfolding run
  judged =
      let e : i - 1 + 1 ≡ i = omega arith in
      rw (items_at tree (i - 1) (omega (arith, g.shaped.long, g.within)), e, g.so_far)
      (rw e at (node_judged R tree states (i - 1) looks))

  -- what its judging asks
  pub running_judging : {s : List ℕ} {nothing : Found} → FindsContent (rules_in s) [] nothing → Judging s nothing states (i - 1)
  running_judging f =
      let e : i - 1 + 1 ≡ i = omega arith in
      record { unlooked = f; within = omega (arith, g.within, g.long); small = rw e g.small }

  module _ {found : Found} {o : Option ℕ} (word : WordOf found.targets o)
      (f : Finds (2 ^ 43) found (node_targets R tree states (i - 1)) (node_looks R tree states (i - 1))) where
    pub running_two : o ≡ None → run R (items tree) ≡ two_at (i - 1)
    running_two e =
        let z : i - 1 + 0 ≡ i - 1 = omega arith in
        let within : i - 1 ≤ length (items tree) = omega (arith, g.shaped.all, g.within) in
        rw z at (two_decides R (i - 1) 0 (items tree) within (judged ∙ put_two reach (word.says _ f.reached) e _ _ _))

    pub running_more : {w : ℕ} → o ≡ Some w → Running R tree n (i - 1) (set states (i - 1) w) (looks + found.looks)
    running_more {w} d =
        let (e, small) = put_word reach (word.says _ f.reached) d (node_looks R tree states (i - 1)) (drop i states) looks in
        let next : suc (i - 1) ≡ i = omega arith in
        let room : i - 1 < length states = omega (arith, g.within, g.long) in
        let total : node_looks R tree states (i - 1) + looks ≡ looks + found.looks = omega (arith, f.number) in
        let back : drop (i - 1) (set states (i - 1) w) ≡ w ∷ drop i states =
        drop-cons (set states (i - 1) w) (i - 1) 0 (omega (arith, length-set states (i - 1) w))
        ∙ rw (get_or-set_same states (i - 1) w 0 room, next, drop-set-lt i states (i - 1) w (omega arith)) in
        record {
          shaped = g.shaped;
          within = omega (arith, g.within);
          long = length-set states (i - 1) w ∙ g.long;
          small = small_set states room next g.small small;
          so_far = rw (back, ← total) (judged ∙ e);
          few = omega (arith, g.few, f.few, g.within);
        }

-- ---- the nodes of a form

module _ (sheet : IndexedSheet) {tree : List ℕ} {n : ℕ} (f : Form sheet.words.now tree n) where
  abbrev s : List ℕ
  s = sheet.words.now

  pub form-shaped : Shaped tree n
  form-shaped = rw f.nodes at (tree_shaped (in_range sheet.indexed.sheet).few_tags f.as_tree)

  -- looks fit 32 bits
  pub looks_fit : (old left : List ℕ) {x : Answer} {m : ℕ} → Ends s tree old x left → x ≡ Ok m → Fits w32 m
  looks_fit old left {m = m} ends is =
      let e = subst (λ y. Ends s tree old y left) is ends in
      let R = rules_in s in
      let few_tags = (in_range sheet.indexed.sheet).few_tags in
      let (w, o) = (tree_passes (sheet_in s).tags few_tags tree f.form).0 f.as_tree in
      let formed = over_formed (sheet_in s).tags few_tags f.form o in
      let says : RunSays R f.form (ran left m) = rw (← w, e) at (run-says (sheet_in s) (in_range sheet.indexed.sheet) f.form formed) in
      let most = (in_range sheet.indexed.sheet).few_rules in
      let a : size f.form * length R ≤ 4096 * length R = mul-le-mul_right (length R) o.few in
      let b : 2 * size f.form * length R ≡ 2 * (size f.form * length R) = omega arith in
      record { fits = omega (arith, says.2) }

-- there is a node
pub form-some : {s tree : List ℕ} {n : ℕ} → Form s tree n → 0 < n
unfolding size
form-some f = rw f.nodes at (go f.form)
  where
    go : (e : Element) → 0 < size e
    go (text k w) = omega arith
    go (tag a w d) = omega arith

-- ---- the outcome of the run, by its case

module _ {x : Answer} (s tree old left : List ℕ) (ends : Ends s tree old x left) where
  pub all_said : {m : ℕ} → x ≡ Ok m → {v : Said} → v ≡ root_verdict (sheet_in s).final left m → (v ≡ verdict_on s tree) ×
      (left ≡ states_on s tree old)
  unfolding verdict first_states
  all_said e ev = rw (subst (λ y. Ends s tree old y left) e ends) (ev, refl)

  pub two_said : {r : Refusal} → x ≡ Err r → (said_refusal r ≡ verdict_on s tree) × (left ≡ states_on s tree old)
  unfolding said_refusal verdict first_states
  two_said e = let (i, at, two, zeros) = subst (λ y. Ends s tree old y left) e ends in rw (at, two) (refl, zeros)
