-- `writer::write_passed` meets its contract: each answer is what the model says, by the pass over the nodes.
use mathlib.Core.Path.{◌≡◌}
use mathlib.Core.List.{List}
use Prim.Native.Nat.{ℕ, ◌/◌}
use native.Mathlib.Omega.{arith}
use borrow.Author.Rules.{rules}
use lib.ListN.{length}
use Rattle.std.proofs.lemmas.Result.{err_from_is_err_and}
use Rattle.model.specs.Answers.{Answer, said, answer_of}
use Rattle.write_measure.specs.Lengths.{measured}
use Rattle.writer.specs.Passed.{Passed}
use Rattle.writer.proofs.PassedLaws.{passed-tags}
use Rattle.writer.proofs.Outcomes.{Measured, says-words, root_stands, root_ready, says-long, says-short, same_buffer, says-written}
use Rattle.writer.proofs.write_passed.Goals as goal

-- the nodes are measured
pass : {list source tree : List ℕ} {r : Answer} → Passed list source tree
    → said r ≡ answer_of (λ m. m) (measured list source tree (length tree / 4) 0 0) → Measured list source tree r
pass p e = record { passed = p; answer = e }

pub measure-requires : goal.measure-requires
measure-requires c = passed-tags c.requires

pub returns-in_err-bytes : goal.returns-in_err-bytes
returns-in_err-bytes c =
    let m = pass c.requires c.measure.ensures in
    let s = says-words _ _ _ _ m c.in_err-bytes.was in
    let p = err_from_is_err_and c.from_residual.result c.from_residual.ensures.1 in
    record { answer = rw (p.1, p.2) s.0; buffer = s.1 }

pub returns-then-bytes-gt-MOST_BYTES : goal.returns-then-bytes-gt-MOST_BYTES
returns-then-bytes-gt-MOST_BYTES c =
    let m = pass c.requires c.measure.ensures in
    let s = says-long _ _ _ c.args.out.now m c.in_ok-bytes.was (omega arith) in
    record { answer = s.0; buffer = s.1 }

pub returns-then-out-bytes : goal.returns-then-out-bytes
returns-then-out-bytes c =
    let m = pass c.requires c.measure.ensures in
    let s = says-short _ _ _ c.args.out.now m c.in_ok-bytes.was (omega arith) (omega arith) in
    record { answer = s.0; buffer = s.1 }

pub invariant_of-root : goal.invariant_of-root
invariant_of-root c =
    let m = pass c.requires c.measure.ensures in
    record { standing = rw c.nodes.ensures (root_stands _ _ _ c.args.out.now m c.in_ok-bytes.was) }

pub put_into-requires : goal.put_into-requires
put_into-requires c =
    let m = pass c.requires c.measure.ensures in
    rw c.nodes.ensures (root_ready _ _ _ c.args.out.now m c.in_ok-bytes.was c.new.ensures.bytes c.new.ensures.at (omega arith))

pub returns : goal.returns
returns c =
    let m = pass c.requires c.measure.ensures in
    let puts = rw c.nodes.ensures at c.put_into.ensures in
    let s = says-written _ _ _ c.args.out.now m c.in_ok-bytes.was (omega arith) c.new.ensures.bytes c.new.ensures.at (omega arith)
    puts in
    let same = same_buffer _ _ _ c.args.out.now m c.in_ok-bytes.was puts in
    record { answer = s.0; buffer = search (s.1, same, rules) }
