-- How the table of a list is made, tag by tag.
use mathlib.Core.Path.{◌≡◌, refl, sym, ap, ◌∙◌}
use mathlib.Core.Logic.{◌≢◌}
use mathlib.Core.Bool.{true, false, ◌||◌}
use mathlib.Core.List.{List}
use Prim.Native.Nat.{ℕ, ◌+◌, ◌-◌, ◌≤◌, ◌<◌}
use native.Mathlib.Omega.{arith}
use native.Mathlib.Decide.{ℕ_discrete}
use lib.Dec.{leb, ltb}
use lib.ListN.{replicate, length-set, length-replicate, get_or-replicate}
use lib.Seq.{get_or-set_same, get_or-set_other, length-sets}
use borrow.Author.Tests.{lt-leb, le-ltb, leb-false, ltb-false}
use Rattle.model.specs.Names.{name_of}
use Rattle.offsets.specs.Lines.{line_starts}
use Rattle.offsets.proofs.IndexLaws.{indexed}
use Rattle.tags.specs.declared.Table.{Table}
use Rattle.tags.specs.Tables.{first_of, next_of, bucket, empty, with_starts, put_first, linked, Unchained, Last, TableOf}
use Rattle.tags.proofs.TagLaws.{or_none}

-- ---- no tag is in a chain yet

pub table_begun : (list : List ℕ) (old : Table) {new : Table} → new ≡ with_starts list old → Unchained old → TableOf list new 0
table_begun list old e u = rw e (record {
  lines = length-sets old.starts 0 (line_starts list) ∙ u.lines;
  chains = u.chains;
  tags = u.tags;
  index = indexed list old.starts _ (omega (arith, u.lines)) refl;
  first = λ h p. rw (u.first h p) (record
      { few = omega arith; there = λ q. absurd (omega arith); most = λ b p q _. omega arith });
  next = λ b p q. absurd (omega arith);
})

pub empty_unchained : {table : Table} → table ≡ empty → Unchained table
empty_unchained e = rw e (record {
  lines = length-replicate {A = ℕ} 65 0;
  chains = length-replicate {A = ℕ} 64 0;
  tags = length-replicate {A = ℕ} 65 0;
  first = λ h p. get_or-replicate {A = ℕ} 64 h 0 0 p;
})

-- a table of a list without a tag in a chain is one
pub none_unchained : {list : List ℕ} {table : Table} → TableOf list table 0 → Unchained table
none_unchained made = record {
  lines = made.lines;
  chains = made.chains;
  tags = made.tags;
  first = λ h p. let l = made.first h p in omega (arith, l.few);
}

-- ---- one tag more

module _ (table : Table) (h t : ℕ) where
  pub unlinked : (leb 64 h || ltb 64 t) ≡ true → linked table h t ≡ table
  unfolding linked
  unlinked e = rw e

  pub is-linked : (leb 64 h || ltb 64 t) ≡ false → linked table h t ≡ put_first table h t
  unfolding linked
  is-linked e = rw e

pub can_link : (h t : ℕ) → (leb 64 h || ltb 64 t) ≡ false → (h < 64) × (t ≤ 64)
can_link h t e = let (p, q) = or_none (leb 64 h) (ltb 64 t) e in (leb-false 64 h p, ltb-false 64 t q)

-- in the bucket h of its name
module _ {list : List ℕ} {table : Table} {a : ℕ} (made : TableOf list table a) (few : a < 64) {h : ℕ}
    (is : h ≡ bucket (name_of list (a + 1))) (small : h < 64) where
  abbrev more : Table
  more = put_first table h (a + 1)

  first_more : (j : ℕ) → j < 64 → Last list (a + 1) j (first_of more j)
  first_more j inside = by (ℕ_discrete j h)
    where
      by : Dec (j ≡ h) → Last list (a + 1) j (first_of more j)
      by (yes e) = rw (e, get_or-set_same table.firsts h (a + 1) 0 (omega (arith, made.chains)))
          (record { few = omega arith; there = λ p. sym is; most = λ b p q _. q })
      by (no e) =
          let l = made.first j inside in
          rw (get_or-set_other table.firsts h j (a + 1) 0 e) (record {
            few = omega (arith, l.few);
            there = l.there;
            most = λ b p q g. let ne : b ≢ a + 1 = λ z. e (sym g ∙ ap (λ (x : ℕ). bucket (name_of list x)) z ∙ sym is) in l.most b p
                (omega arith) g;
          })

  next_more : (b : ℕ) → 1 ≤ b → b ≤ a + 1 → Last list (b - 1) (bucket (name_of list b)) (next_of more b)
  next_more b p q = by (ℕ_discrete b (a + 1))
    where
      by : Dec (b ≡ a + 1) → Last list (b - 1) (bucket (name_of list b)) (next_of more b)
      by (yes e) = let m : a + 1 - 1 ≡ a = omega arith in
          rw (e, get_or-set_same table.nexts (a + 1) (first_of table h) 0 (omega (arith, made.tags)), ← is, m) (made.first h small)
      by (no e) = rw (get_or-set_other table.nexts (a + 1) b (first_of table h) 0 e) (made.next b p (omega arith))

  pub table_more : {after : Table} → after ≡ linked table h (a + 1) → TableOf list after (a + 1)
  table_more e = rw (e, is-linked table h (a + 1) (rw (lt-leb 64 h small, le-ltb 64 (a + 1) (omega arith)))) (record {
    lines = made.lines;
    chains = length-set table.firsts h (a + 1) ∙ made.chains;
    tags = length-set table.nexts (a + 1) (first_of table h) ∙ made.tags;
    index = made.index;
    first = first_more;
    next = next_more;
  })
