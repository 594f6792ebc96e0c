-- Tags, and their names by a table.
use mathlib.Core.Path.{◌≡◌, refl, sym, ap, ◌∙◌}
use mathlib.Core.Bool.{Bool, true, false, ◌||◌}
use mathlib.Core.List.{List, []}
use Prim.Native.Nat.{ℕ, ◌+◌, ◌-◌, ◌≤◌}
use native.Mathlib.Omega.{arith}
use lib.Dec.{eqb, ltb}
use lib.ListN.{get_or, take, drop}
use borrow.Author.Tests.{ne_eqb, le-ltb, ltb-false}
use Rattle.model.specs.Names.{bare, name_of}
use Rattle.model.proofs.Tests.{never, eqb_no}
use Rattle.offsets.specs.Lines.{line_count, Indexed}
use Rattle.offsets.proofs.IndexLaws.{indexed-line}
use Rattle.tags.specs.declared.Table.{Table}
use Rattle.tags.specs.Tables.{no_tag, name_by}

pub or_none : (a b : Bool) → (a || b) ≡ false → (a ≡ false) × (b ≡ false)
or_none true b e = never (sym e)
or_none false b e = (refl, e)

pub is_tag : (a : ℕ) → no_tag a ≡ false → (1 ≤ a) × (a ≤ 64)
is_tag a e =
    let (p, q) = or_none (eqb a 0) (ltb 64 a) e in
    let n = eqb_no {m = a} {n = 0} p in
    (omega (arith, n), ltb-false 64 a q)

pub tag_is : (a : ℕ) → 1 ≤ a → a ≤ 64 → no_tag a ≡ false
tag_is a some few = rw (ne_eqb a 0 (λ z. omega arith), le-ltb 64 a few)

module _ (list : List ℕ) (table : Table) (a : ℕ) where
  pub name-there : no_tag a ≡ false → name_by list table a ≡ bare
      (take (get_or table.starts a 0 - get_or table.starts (a - 1) 0) (drop (get_or table.starts (a - 1) 0) list))
  unfolding name_by
  name-there e = rw e

  pub name_none : no_tag a ≡ true → name_by list table a ≡ []
  unfolding name_by
  name_none e = rw e

  pub name_is : Indexed list table.starts → 1 ≤ a → a ≤ line_count list → name_by list table a ≡ name_of list a
  unfolding name_of
  name_is index h i =
      let e : a - 1 + 1 ≡ a = omega arith in
      name-there (tag_is a h (omega arith)) ∙ ap bare (rw e at (indexed-line list table.starts index (a - 1) (omega arith)))
