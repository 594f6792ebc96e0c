-- `in_second` meets its contract: refusal 9 is of a sheet.
use mathlib.Core.Path.{ap}
use Prim.Native.Nat.{ℕ, ◌+◌}
use native.Mathlib.Omega.{arith}
use Rattle.model.specs.Answers.{refusal, said_refusal}
use Rattle.compose.proofs.AnswerLaws.{nine_sheet, nine_place}
use Rattle.compose.proofs.in_second.Goals as goal

pub overflow_add-result : goal.overflow_add-result
overflow_add-result c = let (i, e, few) = c.requires in omega (arith, few, nine_place e c.in-Sheet.is)

pub returns-in-Sheet : goal.returns-in-Sheet
unfolding said_refusal
returns-in-Sheet c = λ i e. ap (λ (k : ℕ). refusal 9 (k + 20000)) (nine_place e c.in-Sheet.is)

pub returns-in_default : goal.returns-in_default
returns-in_default c = λ i e. absurd (c.in_default.not-Sheet i (nine_sheet c.args.bad e))
