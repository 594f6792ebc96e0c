-- Demand 2: what the verdict and the state words of a run say of the transition relation.
use mathlib.Core.Path.{◌≡◌, refl, sym, ap, ◌∙◌, subst}
use mathlib.Core.Logic.{inl, inr, ◌↔◌}
use mathlib.Core.Bool.{cond, false≢true}
use mathlib.Core.List.{List, [], ◌∷◌, ◌++◌}
use Prim.Native.Nat.{ℕ, zero, suc, ◌*◌, ◌^◌, ◌≤◌, ◌<◌}
use native.Mathlib.Nat.{mul-le-mul_left, mul-le-mul_right}
use native.Mathlib.Omega.{arith}
use lib.ListN.{length, take, drop, replicate, length-replicate}
use lib.Seq.{take_at, drop_at}
use borrow.Author.Tests.{le-leb}
use Rattle.model.specs.Lists.{◌∈◌, has}
use Rattle.model.specs.Answers.{Said, accepted, refused, stuck, refusal, looks_in, passes, ◌>>=◌, ◌>>◌, require, room_for}
use Rattle.model.specs.Tree.{Element, nodes, size, words, tree_of, Over}
use Rattle.model.specs.Sheet.{Sheet, sheet_of, InRange}
use Rattle.model.specs.Relation.{AtMostOne, ReachesTwo, Single, GivesTwo, Takes, NoState, SomeState, StatesOf, Highest}
use Rattle.model.specs.Run.{Ran, ran, two_at, items, run, root_verdict, verdict}
use Rattle.model.specs.Calls.{judge, verdict_of, judge_said, first_states, states_after, judge_states}
use Rattle.model.specs.Demands.{Names}
use Rattle.model.proofs.Tests.{Told, yea, nay, told}
use Rattle.model.proofs.ListLaws.{∈-has, has-∈}
use Rattle.model.proofs.SheetCode.{sheet_passes}
use Rattle.model.proofs.TreeLaws.{length-nodes, tree_passes}
use Rattle.model.proofs.Outcome.{root-∈}
use Rattle.model.proofs.Places.{length-states, root-word, root-has-word, root_stuck, highest_∈, highest_unique}
use Rattle.model.proofs.RunLaws.{over_formed, RunSays, run-says}

-- ---- what each verdict means

pub data Meant (s : Sheet) (e : Element) : Said → Type 0 where
  accepts : {q m : ℕ} → Takes s e q → q ∈ s.final → Meant s e (accepted q m)
  refuses : {q m : ℕ} → Takes s e q → (q ∈ s.final → ⊥) → Meant s e (refused q m)
  sticks : {i m : ℕ} → Single s.rules (nodes e) → NoState s.rules e → Highest (NoState s.rules) (SomeState s.rules)
      (nodes e) i → Meant s e (stuck i m)
  doubles : {i : ℕ} → Highest (ReachesTwo s.rules) (AtMostOne s.rules) (nodes e) i → Meant s e (refusal 23 i)

module _ (s : Sheet) (e : Element) where
  -- ---- the verdict of a run is meant

  final_meant : (q m : ℕ) → Takes s e q → Told (has s.final q) → Meant s e (cond (has s.final q) (accepted q m) (refused q m))
  final_meant q m t (yea y) = rw y (accepts t (has-∈ s.final y))
  final_meant q m t (nay n) = rw n (refuses t (λ i. false≢true (sym n ∙ ∈-has i)))

  states_meant : (st : List ℕ) (m : ℕ) → Single s.rules (nodes e) → StatesOf s.rules (nodes e) st → Meant s e
      (root_verdict s.final st m)
  unfolding root_verdict
  states_meant [] m u t = absurd (root-has-word e t)
  states_meant (zero ∷ st) m u t = sticks u (root-word e t) (root_stuck t)
  states_meant (suc q ∷ st) m u t = final_meant q m (u, root-word e t) (told (has s.final q))

  run_meant : (r : Ran) → RunSays s.rules e r → Meant s e (verdict s.final r)
  unfolding verdict
  run_meant (ran st m) (u, t, b) = states_meant st m u t
  run_meant (two_at i) h = doubles h

  -- ---- and nothing else could be meant

  takes_one : {q r : ℕ} → Takes s e q → Takes s e r → q ≡ r
  takes_one (u, h) (v, k) = u e (root-∈ e) _ _ h k

  two_apart : (f : Element) → ReachesTwo s.rules f → AtMostOne s.rules f → ⊥
  two_apart f (q, r, h, k, d) u = d (u q r h k)

  not_two : {i : ℕ} → Single s.rules (nodes e) → Highest (ReachesTwo s.rules) (AtMostOne s.rules) (nodes e) i → ⊥
  not_two u h = two_apart h.at h.holds (u h.at (highest_∈ h))

  gives_two : {i : ℕ} → Highest (ReachesTwo s.rules) (AtMostOne s.rules) (nodes e) i → GivesTwo s e
  gives_two h = (h.at, highest_∈ h, h.holds)

  -- the verdict names q exactly when the relation takes the root to q and no node reaches two
  names_means : (x : Said) → Meant s e x → (q : ℕ) → Names x q → Takes s e q
  names_means x t q (m, inl i) = accepted_means (subst (Meant s e) i t)
    where
      accepted_means : Meant s e (accepted q m) → Takes s e q
      accepted_means (accepts u f) = u
  names_means x t q (m, inr i) = refused_means (subst (Meant s e) i t)
    where
      refused_means : Meant s e (refused q m) → Takes s e q
      refused_means (refuses u f) = u

  means_names : {x : Said} → Meant s e x → (q : ℕ) → Takes s e q → Names x q
  means_names (accepts {m = m} t f) q u = (m, inl (ap (λ (z : ℕ). accepted z m) (takes_one t u)))
  means_names (refuses {m = m} t f) q u = (m, inr (ap (λ (z : ℕ). refused z m) (takes_one t u)))
  means_names (sticks v n h) q u = absurd (n q u.1)
  means_names (doubles h) q u = absurd (not_two u.0 h)

  -- it is accepted exactly when that state is final
  accepted_means : {q m : ℕ} → Meant s e (accepted q m) → Takes s e q × (q ∈ s.final)
  accepted_means (accepts t f) = (t, f)

  means_accepted : {x : Said} → Meant s e x → (q : ℕ) → Takes s e q → q ∈ s.final → (m : ℕ) × (x ≡ accepted q m)
  means_accepted (accepts {m = m} t f) q u i = (m, ap (λ (z : ℕ). accepted z m) (takes_one t u))
  means_accepted (refuses t f) q u i = absurd (f (subst (λ (z : ℕ). z ∈ s.final) (sym (takes_one t u)) i))
  means_accepted (sticks v n h) q u i = absurd (n q u.1)
  means_accepted (doubles h) q u i = absurd (not_two u.0 h)

  -- 23 stands exactly when some node reaches two, at the highest-numbered such node
  two_means : {i : ℕ} → Meant s e (refusal 23 i) → Highest (ReachesTwo s.rules) (AtMostOne s.rules) (nodes e) i
  two_means (doubles h) = h

  means_two : {x : Said} → Meant s e x → GivesTwo s e → (i : ℕ) × (x ≡ refusal 23 i)
  means_two (accepts t f) (g, n, h) = absurd (two_apart g h (t.0 g n))
  means_two (refuses t f) (g, n, h) = absurd (two_apart g h (t.0 g n))
  means_two (sticks v n h) (g, m, k) = absurd (two_apart g k (v g m))
  means_two (doubles {i = i} h) t = (i, refl)

  -- stuck otherwise, at the highest-numbered node that reaches no state
  stuck_means : {i m : ℕ} → Meant s e (stuck i m) → Single s.rules (nodes e) × NoState s.rules e × Highest (NoState s.rules)
      (SomeState s.rules) (nodes e) i
  stuck_means (sticks u n h) = (u, n, h)

  means_stuck : {x : Said} → Meant s e x → Single s.rules (nodes e) → NoState s.rules e → (i m : ℕ) × (x ≡ stuck i m)
  means_stuck (accepts {q = q} t f) u n = absurd (n q t.1)
  means_stuck (refuses {q = q} t f) u n = absurd (n q t.1)
  means_stuck (sticks {i = i} {m = m} v k h) u n = (i, m, refl)
  means_stuck (doubles h) u n = absurd (not_two u h)

-- ---- the judge call, where no earlier refusal stands: sheet and tree pass, and there is room for the states

module _ (sheet tree states : List ℕ) {s : Sheet} {e : Element}
    (sheet_ok : sheet_of sheet ≡ passes s) (tree_ok : tree_of s.tags tree ≡ passes e) (room : size e ≤ length states) where
  in_range : InRange s
  in_range = ((sheet_passes sheet s).0 sheet_ok).1

  tree_is : (tree ≡ words e) × Over s.tags e
  tree_is = (tree_passes s.tags in_range.few_tags tree e).0 tree_ok

  says : RunSays s.rules e (run s.rules (items tree))
  says = subst (λ t. RunSays s.rules e (run s.rules (items t))) (sym tree_is.0)
      (run-says s in_range e (over_formed s.tags in_range.few_tags e tree_is.1))

  judged : judge sheet tree (length states) ≡ passes (record { final = s.final; nodes = size e; outcome = run s.rules (items tree) })
  unfolding judge ◌>>=◌ ◌>>◌ require room_for
  judged = rw (sheet_ok, tree_ok, le-leb _ _ room)

  said-is : judge_said sheet tree states ≡ verdict s.final (run s.rules (items tree))
  unfolding judge_said verdict_of
  said-is = rw judged

  states_are : judge_states sheet tree states ≡ first_states (size e) (run s.rules (items tree)) ++ drop (size e) states
  unfolding judge_states states_after
  states_are = rw judged

  pub meant : Meant s e (judge_said sheet tree states)
  meant = subst (Meant s e) (sym said-is) (run_meant s e (run s.rules (items tree)) says)

  -- The verdict names a state exactly when the transition relation takes the form's root to it and no node reaches two.
  pub verdict-names : (q : ℕ) → Names (judge_said sheet tree states) q ↔ Takes s e q
  verdict-names q = (names_means s e _ meant q, means_names s e meant q)

  -- It is accepted exactly when that state is final.
  pub verdict_accepts : (q : ℕ) → ((m : ℕ) × (judge_said sheet tree states ≡ accepted q m)) ↔ (Takes s e q × (q ∈ s.final))
  verdict_accepts q = (λ t. accepted_means s e (subst (Meant s e) t.1 meant), λ t. means_accepted s e meant q t.0 t.1)

  -- Two at a node is refused: 23 exactly when some node reaches two …
  pub verdict_two : ((i : ℕ) × (judge_said sheet tree states ≡ refusal 23 i)) ↔ GivesTwo s e
  verdict_two = (λ t. gives_two s e (two_means s e (subst (Meant s e) t.1 meant)), means_two s e meant)

  -- … and its place is the highest-numbered such node.
  pub verdict_two_at : (i : ℕ) → (judge_said sheet tree states ≡ refusal 23 i) ↔ Highest (ReachesTwo s.rules) (AtMostOne s.rules)
      (nodes e) i
  verdict_two_at i = (λ t. two_means s e (subst (Meant s e) t meant), back)
    where
      back : Highest (ReachesTwo s.rules) (AtMostOne s.rules) (nodes e) i → judge_said sheet tree states ≡ refusal 23 i
      back h =
          let (j, t) = means_two s e meant (gives_two s e h) in
          t ∙ ap (refusal 23) (highest_unique (two_apart s e) (nodes e) (two_means s e (subst (Meant s e) t meant)) h)

  -- Without such a node, none at the root is stuck …
  pub verdict_stuck : ((i m : ℕ) × (judge_said sheet tree states ≡ stuck i m)) ↔ (Single s.rules (nodes e) × NoState s.rules e)
  verdict_stuck = (
    λ t. let (u, n, h) = stuck_means s e (subst (Meant s e) t.2 meant) in (u, n),
    λ t. means_stuck s e meant t.0 t.1,
  )

  -- … with the highest-numbered node that reaches no state.
  pub verdict_stuck_at : (i m : ℕ) → judge_said sheet tree states ≡ stuck i m → Highest (NoState s.rules) (SomeState s.rules)
      (nodes e) i
  verdict_stuck_at i m t = (stuck_means s e (subst (Meant s e) t meant)).2

  -- Each state word is what the relation gives that node; the words past them keep their contents.
  states-front : (r : Ran) → RunSays s.rules e r → Single s.rules (nodes e) → (st : List ℕ) × (first_states (size e) r ≡ st) ×
      (length st ≡ size e) × StatesOf s.rules (nodes e) st
  unfolding first_states
  states-front (ran st m) (u, t, b) v = (st, refl, length-states t ∙ length-nodes e, t)
  states-front (two_at i) h v = absurd (not_two s e v h)

  pub states_say : Single s.rules (nodes e) → StatesOf s.rules (nodes e) (take (size e) (judge_states sheet tree states))
  states_say u =
      let (st, i, n, t) = states-front (run s.rules (items tree)) says u in
      subst (StatesOf s.rules (nodes e))
      (sym (ap (take (size e)) (states_are ∙ ap (λ l. l ++ drop (size e) states) i) ∙ take_at st (drop (size e) states) (size e) n)) t

  -- 23 zeroes the first n state words.
  front_length : (r : Ran) → RunSays s.rules e r → length (first_states (size e) r) ≡ size e
  unfolding first_states
  front_length (ran st m) (u, t, b) = length-states t ∙ length-nodes e
  front_length (two_at i) h = length-replicate (size e) 0

  front_zero : (r : Ran) → RunSays s.rules e r → GivesTwo s e → first_states (size e) r ≡ replicate (size e) 0
  unfolding first_states
  front_zero (ran st m) (u, t, b) (f, n, h) = absurd (two_apart s e f h (u f n))
  front_zero (two_at i) h t = refl

  pub states_zeroed : GivesTwo s e → take (size e) (judge_states sheet tree states) ≡ replicate (size e) 0
  states_zeroed t =
      ap (take (size e)) (states_are ∙ ap (λ l. l ++ drop (size e) states) (front_zero (run s.rules (items tree)) says t))
      ∙ take_at (replicate (size e) 0) (drop (size e) states) (size e) (length-replicate (size e) 0)

  pub states_past : drop (size e) (judge_states sheet tree states) ≡ drop (size e) states
  states_past =
      ap (drop (size e)) states_are ∙ drop_at (first_states (size e) (run s.rules (items tree))) (drop (size e) states) (size e)
      (front_length (run s.rules (items tree)) says)

  -- Looks are at most 2 × n × R, and fit 32 bits.
  run_looks : (r : Ran) → RunSays s.rules e r → looks_in (verdict s.final r) ≤ 2 * size e * length s.rules
  unfolding verdict root_verdict
  run_looks (ran [] m) (u, t, b) = b
  run_looks (ran (zero ∷ st) m) (u, t, b) = b
  run_looks (ran (suc q ∷ st) m) (u, t, b) = go (told (has s.final q))
    where
      go : Told (has s.final q) → looks_in (cond (has s.final q) (accepted q m) (refused q m)) ≤ 2 * size e * length s.rules
      go (yea y) = rw y b
      go (nay n) = rw n b
  run_looks (two_at i) h = omega arith

  pub looks_bound : looks_in (judge_said sheet tree states) ≤ 2 * size e * length s.rules
  looks_bound = subst (λ x. looks_in x ≤ 2 * size e * length s.rules) (sym said-is) (run_looks (run s.rules (items tree)) says)

  pub looks_fit : looks_in (judge_said sheet tree states) < 2 ^ 32
  looks_fit =
      let a : size e * length s.rules ≤ 4096 * length s.rules = mul-le-mul_right (length s.rules) tree_is.1.few in
      let b : 4096 * length s.rules ≤ 4096 * 1024 = mul-le-mul_left 4096 in_range.few_rules in
      let c : 2 * size e * length s.rules ≡ 2 * (size e * length s.rules) = omega arith in
      omega (arith, looks_bound)
