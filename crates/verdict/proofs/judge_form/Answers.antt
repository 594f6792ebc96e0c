-- `judge_form` meets its contract: each answer is that of the checks on the way, and the tree that was read stands at the front of its
-- array.
use mathlib.Core.Path.{sym, refl, ◌∙◌}
use native.Mathlib.Omega.{arith}
use lib.Seq.{length-take-le}
use Rattle.std.proofs.lemmas.Result.{err_from_is_err_and}
use Rattle.model.specs.Answers.{said_judgement, said_refusal}
use Rattle.verdict.proofs.VerdictLaws.{sheet_header, tree_counted, text_refused, tags_differ, form_judged}
use Rattle.verdict.proofs.judge_form.Goals as goal

pub returns-in_err-n : goal.returns-in_err-n
unfolding said_judgement
returns-in_err-n c = λ file from.
    let p = err_from_is_err_and c.from_residual.result c.from_residual.ensures.1 in
    rw (p.1, p.2) (text_refused _ _ c.requires.names file c.requires.sheet from _ (omega arith) c.read.ensures.answer c.in_err-n.was)

pub bounds-sheet-4 : goal.bounds-sheet-4
bounds-sheet-4 c = omega (arith, (sheet_header c.requires.sheet).0)

pub returns-then-names-tags : goal.returns-then-names-tags
unfolding said_judgement said_refusal
returns-then-names-tags c = λ file from. let names = c.requires.names in
    tags_differ _ _ names file c.requires.sheet from (tree_counted _ _ names _ (c.read.ensures.answer, c.read.ensures.buffer) c.in_ok-n.was)
    refl c.if-names-tags.true

pub overflow_mul-tree : goal.overflow_mul-tree
overflow_mul-tree c = omega (
  arith,
  (tree_counted _ _ c.requires.names _ (c.read.ensures.answer, c.read.ensures.buffer) c.in_ok-n.was).few,
)

pub slice_bounds-tree-end : goal.slice_bounds-tree-end
slice_bounds-tree-end c = omega (
  arith,
  (tree_counted _ _ c.requires.names _ (c.read.ensures.answer, c.read.ensures.buffer) c.in_ok-n.was).few,
)

pub slice_bounds-judge-end : goal.slice_bounds-judge-end
slice_bounds-judge-end c = sym (length-take-le _ _ (omega (
  arith,
  (tree_counted _ _ c.requires.names _ (c.read.ensures.answer, c.read.ensures.buffer) c.in_ok-n.was).few,
)))

pub returns : goal.returns
returns c = λ file from. let names = c.requires.names in
    c.judge.ensures.answer
    ∙ form_judged _ _ names file c.requires.sheet from
    (tree_counted _ _ names _ (c.read.ensures.answer, c.read.ensures.buffer) c.in_ok-n.was)
    refl c.if-names-tags.false _ (omega arith)
