-- `at_most` meets its contract: the word after the sum is the bound.
use mathlib.Core.Path.{ap₂, ◌∙◌}
use borrow.Author.Rules.{rules}
use lib.Signed.{le_z}
use mir.Syntax.{w32}
use mir.Facts.{to_z-of_z}
use Rattle.bits.proofs.SignedLaws.{signed-word}
use Rattle.judge_count.proofs.SumLaws.{slice-rest}
use Rattle.judge_count.proofs.Sum.at_most.Goals as goal

pub returns : goal.returns
returns c =
    let total = to_z-of_z {w = w32} {z = c.args.self.now.total} (search rules) in
    let bound = to_z-of_z {w = w32} (record { sfits = c.cast_signed.type_inv }) ∙ c.cast_signed.ensures ∙ signed-word _ in
    (ap₂ le_z total bound, slice-rest 1 c.args.self.now.rest.now)
