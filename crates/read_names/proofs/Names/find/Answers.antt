-- `read_names::Names::find` meets its contract: the name's chain has its tag.
use mathlib.Core.Path.{refl, ap, ◌∙◌}
use native.Mathlib.Omega.{arith}
use Rattle.tags.specs.Tables.{tag_or_none}
use Rattle.tags.proofs.ChainLaws.{found_all, found_tag}
use Rattle.read_names.proofs.Names.find.Goals as goal

pub returns : goal.returns
returns c =
    let listing = c.args.self.now.listing in
    c.find.ensures ∙ ap tag_or_none (found_tag listing.checked (found_all listing.made (omega arith) _ refl))
