-- What a comparison with a tag's name tells of a name's tag.
use mathlib.Core.Path.{◌≡◌, sym, ap, ◌∙◌}
use mathlib.Core.Logic.{◌≢◌}
use mathlib.Core.Bool.{true, false}
use mathlib.Core.List.{List}
use Prim.Native.Nat.{ℕ, ◌-◌, ◌+◌, ◌≤◌, ◌<◌}
use native.Mathlib.Omega.{arith}
use Rattle.model.specs.Bytes.{is_name, same_bytes}
use Rattle.model.specs.Names.{name_of, tag_of}
use Rattle.model.proofs.Tests.{Yes, never}
use Rattle.model.proofs.NameLaws.{same-bytes_refl, bytes_same, tag_of_name, name_of_tag}
use Rattle.model.proofs.NameLaws as name_laws
use Rattle.offsets.specs.Lines.{line_count}
use Rattle.tags.specs.declared.Table.{Table}
use Rattle.tags.specs.Tables.{name_by, bucket, linked, TableOf}
use Rattle.tags.proofs.TagLaws.{name_is}
use Rattle.tags.proofs.TableLaws.{table_more}
use Rattle.read_names.specs.Listing.{Listing}

module _ {list : List ℕ} {table : Table} (listing : Listing list table) (t : ℕ) (some : 1 ≤ t) (few : t ≤ line_count list) where
  own : name_by list table t ≡ name_of list t
  own = name_is list table t listing.made.index some few

  pub named_well : Yes (is_name (name_by list table t))
  named_well = rw own (name_laws.name_is list (line_count list) listing.checked t some few)

  pub tag_named : (name : List ℕ) → same_bytes (name_by list table t) name ≡ true → tag_of list name ≡ t
  tag_named name e = ap (tag_of list) (sym (bytes_same _ name e) ∙ own) ∙ tag_of_name list (line_count list) listing.checked t some few

  pub tag_other : (name : List ℕ) → same_bytes (name_by list table t) name ≡ false → tag_of list name ≢ t
  tag_other name e f =
      let listed : tag_of list name ≢ 0 = λ z. absurd (omega arith) in
      let same : name_by list table t ≡ name = own ∙ ap (name_of list) (sym f) ∙ name_of_tag list (line_count list)
      listing.checked name listed in
      never (sym e ∙ ap (λ (l : List ℕ). same_bytes l name) same ∙ same-bytes_refl name)

-- a tag more, on the front of its bucket's chain
pub with_tag : {list : List ℕ} {table after : Table} {t h : ℕ} → TableOf list table (t - 1) → 1 ≤ t → t ≤ 64 → h ≡ bucket (name_of list t)
    → h < 64 → after ≡ linked table h t → TableOf list after t
with_tag {list} {table} {after} {t} {h} made some few is small e =
    let m : t - 1 + 1 ≡ t = omega arith in
    let own : h ≡ bucket (name_of list (t - 1 + 1)) = rw m is in
    let more : after ≡ linked table h (t - 1 + 1) = rw m e in
    rw m at (table_more made (omega arith) own small more)
