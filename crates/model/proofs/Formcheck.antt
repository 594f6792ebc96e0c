-- Demand 2 of formcheck: what its verdict says of the form in a text, by a name list and the bytes of a sheet's file.
use mathlib.Core.Path.{◌≡◌, refl, sym, ap, ◌∙◌, subst}
use mathlib.Core.Logic.{inl, inr, ◌↔◌}
use mathlib.Core.List.{List}
use Prim.Native.Nat.{ℕ, ◌*◌, ◌≤◌}
use native.Mathlib.Omega.{arith}
use lib.Dec.{eqb}
use lib.ListN.{length, replicate, length-replicate}
use Rattle.model.specs.Lists.{◌∈◌}
use Rattle.model.specs.Answers.{Said, count, accepted, refused, stuck, refusal, Checked, passes, refuses, ◌>>=◌, ◌>>◌, require}
use Rattle.model.specs.Answers.{looks_in}
use Rattle.model.specs.Tree.{Element, ε, ◌·◌, size, nodes, words, tree_of, Over}
use Rattle.model.specs.Sheet.{Sheet, sheet_of, file_words}
use Rattle.model.specs.Names.{names_of}
use Rattle.model.specs.Text.{form_of}
use Rattle.model.specs.Relation.{AtMostOne, ReachesTwo, Single, GivesTwo, Takes, Accepts, NoState, SomeState, Highest}
use Rattle.model.specs.Calls.{Judged, judge, judge_said, verdict_of, formcheck}
use Rattle.model.specs.Demands.{Names, Presents}
use Rattle.model.proofs.Tests.{same, eqb_yes}
use Rattle.model.proofs.CheckLaws.{bind_inv, required}
use Rattle.model.proofs.TreeLaws.{tree_passes}
use Rattle.model.proofs.NameLaws.{few-names}
use Rattle.model.proofs.ReadGood.{read-good}
use Rattle.model.proofs.RoundTrip.{one_words, room_passes}
use Rattle.model.proofs.Demand2.{verdict-names, verdict_accepts, verdict_two, verdict_two_at, verdict_stuck, verdict_stuck_at}
use Rattle.model.proofs.Demand2.{looks_bound}

module _ {list file s : List ℕ} {t : Sheet} {e : Element} (p : Presents list file s t e) where
  -- The form's words keep the rules of a tree over the sheet's tags.
  pub as_tree : tree_of t.tags (words e) ≡ passes e
  as_tree =
      let (f, one, over, _, _) = read-good list s t.tags (e · ε) p.names p.form in
      let alone : f ≡ e = cc in
      (tree_passes t.tags (few-names list t.tags p.names) (words e) e).1 (refl, subst (Over t.tags) alone over)

  -- What formcheck says is what the judge says of them, wherever there is room for the states.
  pub judged : (states : List ℕ) → size e ≤ length states → formcheck list file s ≡ judge_said (file_words file) (words e) states
  unfolding formcheck judge_said judge verdict_of ◌>>=◌ ◌>>◌ require
  judged states room = rw (
    p.names,
    p.sheet,
    p.form,
    eqb_yes {m = t.tags} refl,
    one_words e,
    as_tree,
    room_passes (size e) (length states) room,
  )

  states : List ℕ
  states = replicate (size e) 0

  room : size e ≤ length states
  unfolding states
  room = omega (arith, length-replicate {A = ℕ} (size e) 0)

  -- Its verdict names a state exactly when the transition relation takes the form's root to it and no node reaches two.
  pub names-state : (q : ℕ) → Names (formcheck list file s) q ↔ Takes t e q
  names-state q = rw (judged states room) (verdict-names (file_words file) (words e) states p.sheet as_tree room q)

  -- It is accepted exactly when that state is final.
  pub accepts_state : (q : ℕ) → ((m : ℕ) × (formcheck list file s ≡ accepted q m)) ↔ (Takes t e q × (q ∈ t.final))
  accepts_state q = rw (judged states room) (verdict_accepts (file_words file) (words e) states p.sheet as_tree room q)

  -- It is 23 exactly when some node reaches two …
  pub gives_two : ((i : ℕ) × (formcheck list file s ≡ refusal 23 i)) ↔ GivesTwo t e
  gives_two = rw (judged states room) (verdict_two (file_words file) (words e) states p.sheet as_tree room)

  -- … at the highest-numbered such node.
  pub gives_two_at : (i : ℕ) → (formcheck list file s ≡ refusal 23 i) ↔ Highest (ReachesTwo t.rules) (AtMostOne t.rules) (nodes e) i
  gives_two_at i = rw (judged states room) (verdict_two_at (file_words file) (words e) states p.sheet as_tree room i)

  -- Without such a node, none at the root is stuck …
  pub is_stuck : ((i m : ℕ) × (formcheck list file s ≡ stuck i m)) ↔ (Single t.rules (nodes e) × NoState t.rules e)
  is_stuck = rw (judged states room) (verdict_stuck (file_words file) (words e) states p.sheet as_tree room)

  -- … with the highest-numbered node that reaches no state.
  pub is_stuck_at : (i m : ℕ) → formcheck list file s ≡ stuck i m → Highest (NoState t.rules) (SomeState t.rules) (nodes e) i
  is_stuck_at i m = rw (judged states room) (verdict_stuck_at (file_words file) (words e) states p.sheet as_tree room i m)

  -- The looks are at most 2 × n × R.
  pub few_looks : looks_in (formcheck list file s) ≤ 2 * size e * length t.rules
  few_looks = rw (judged states room) (looks_bound (file_words file) (words e) states p.sheet as_tree room)

-- ---- a verdict is given only of what is presented

-- a verdict, and no refusal
abbrev Verdict : Said → Type 0
Verdict (count n) = ⊥
Verdict (accepted q m) = Unit {0}
Verdict (refused q m) = Unit {0}
Verdict (stuck i m) = Unit {0}
Verdict (refusal n i) = ⊥

passed : (c : Checked Judged) → Verdict (verdict_of c) → (j : Judged) × (c ≡ passes j)
unfolding verdict_of
passed (passes j) v = (j, refl)
passed (refuses n i) v = absurd v

presented : (list file s : List ℕ) → Verdict (formcheck list file s) → (t : Sheet) × (e : Element) × Presents list file s t e
unfolding formcheck
presented list file s v =
    let (j, h) = passed _ v in
    let (g, names, h₁) = bind_inv (names_of list) _ h in
    let (t, sheet, h₂) = bind_inv (sheet_of (file_words file)) _ h₁ in
    let (d, form, h₃) = bind_inv (form_of list s) _ h₂ in
    let (y, h₄) = (required (eqb g t.tags) 20 t.tags _).0 h₃ in
    let (e, one, _, _, _) = read-good list s g d names form in
    (t, e, record { names = names ∙ ap passes (same g t.tags y); sheet = sheet; form = form ∙ ap passes one })

-- ---- so, of every name list, sheet's file and text

module _ (list file s : List ℕ) where
  -- what tells a verdict, and of what is presented tells P of it, tells exactly that something is presented of which P holds
  exactly : {X : Type 0} (P : Sheet → Element → Type 0) → (X → Verdict (formcheck list file s)) →
      ((t : Sheet) (e : Element) → Presents list file s t e → X ↔ P t e)
      → X ↔ ((t : Sheet) × (e : Element) × Presents list file s t e × P t e)
  exactly {X} P verdict tells = (there, λ x. let (t, e, p, h) = x in (tells t e p).1 h)
    where
      there : X → (t : Sheet) × (e : Element) × Presents list file s t e × P t e
      there x = let (t, e, p) = presented list file s (verdict x) in (t, e, p, (tells t e p).0 x)

  -- The verdict names a state exactly when they present a sheet and a form that the sheet takes to that state.
  pub names : (q : ℕ) → Names (formcheck list file s) q ↔ ((t : Sheet) × (e : Element) × Presents list file s t e × Takes t e q)
  names q = exactly (λ t e. Takes t e q) verdict (λ t e p. names-state p q)
    where
      verdict : Names (formcheck list file s) q → Verdict (formcheck list file s)
      verdict (m, inl h) = subst Verdict (sym h) tt
      verdict (m, inr h) = subst Verdict (sym h) tt

  -- It is accepted exactly when they present a sheet and a form that the sheet accepts.
  pub accepts : ((q m : ℕ) × (formcheck list file s ≡ accepted q m)) ↔
      ((t : Sheet) × (e : Element) × Presents list file s t e × Accepts t e)
  accepts =
      exactly Accepts (λ x. subst Verdict (sym x.2) tt)
      (λ t e p. (
        λ x. let (q, m, h) = x in let (takes, final) = (accepts_state p q).0 (m, h) in (q, takes, final),
        λ x. let (q, takes, final) = x in let (m, h) = (accepts_state p q).1 (takes, final) in (q, m, h),
      ))

  -- It is stuck exactly when they present a sheet and a form of which no node reaches two states, and the root none.
  pub sticks : ((i m : ℕ) × (formcheck list file s ≡ stuck i m)) ↔
      ((t : Sheet) × (e : Element) × Presents list file s t e × (Single t.rules (nodes e) × NoState t.rules e))
  sticks = exactly (λ t e. Single t.rules (nodes e) × NoState t.rules e) (λ x. subst Verdict (sym x.2) tt) (λ t e p. is_stuck p)
