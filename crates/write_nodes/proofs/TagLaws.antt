-- Tags of a checked name list.
use mathlib.Core.List.{List}
use Prim.Native.Nat.{ℕ, ◌≤◌, ◌<◌}
use native.Mathlib.Omega.{arith}
use lib.ListN.{length}
use Rattle.model.specs.Names.{name_of}
use Rattle.model.proofs.NameLaws.{few-names, name-short}
use Rattle.offsets.specs.Lines.{Indexed}
use Rattle.offsets.proofs.IndexLaws.{Lies, name_lies}
use Rattle.write_nodes.specs.Nodes.{Tag}

module _ {list : List ℕ} {a : ℕ} (t : Tag list a) where
  pub tag_below : a < 65
  tag_below = omega (arith, t.few, few-names list t.tags t.names)

  pub tag_lies : {starts : List ℕ} → Indexed list starts → Lies list starts a
  tag_lies {starts} index = name_lies list t.tags t.names starts index a t.some t.few

  pub tag_short : length (name_of list a) ≤ 24
  tag_short = name-short list t.tags t.names a t.some t.few
