-- `offsets::same_bytes` meets its contract: the lists are the same where they are from i on.
use mathlib.Core.Path.{sym, ◌∙◌}
use native.Mathlib.Omega.{arith}
use Rattle.offsets.proofs.Scan.{same_yes, same_no, same_none, same_length}
use Rattle.offsets.proofs.same_bytes.Goals as goal

pub returns-then-a-b : goal.returns-then-a-b
returns-then-a-b c = sym (same_length _ _ c.if-a-b.true)

pub returns-then-a-i : goal.returns-then-a-i
returns-then-a-i c = sym (c.loop-i.invariant ∙ same_no _ _ _ c.loop-i-test.true (omega arith)
    c.if-a-i.true)

pub loop-i-preserved : goal.loop-i-preserved
loop-i-preserved c = c.loop-i.invariant ∙ same_yes _ _ _ c.loop-i-test.true (omega arith)
    c.if-a-i.false

pub returns : goal.returns
returns c = sym (c.loop-i.invariant ∙ same_none _ _ _ c.loop-i-test.false (omega arith))
