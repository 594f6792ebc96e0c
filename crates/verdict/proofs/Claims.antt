-- The line of whole files, and what it tells of them, by the promise of `line` alone. A program reads as much of each file as its array
-- holds; `Buffers::new` promises how much that is.
use mathlib.Core.Path.{◌≡◌, sym, ap, ◌∙◌}
use mathlib.Core.Logic.{◌↔◌}
use mathlib.Core.List.{List}
use Prim.Native.Nat.{ℕ}
use lib.ListN.{take, drop}
use lib.Seq.{take_at, drop_at}
use Rattle.model.specs.Answers.{Said, accepted}
use Rattle.model.specs.Tree.{Element}
use Rattle.model.specs.Sheet.{Sheet}
use Rattle.model.specs.Relation.{Accepts}
use Rattle.model.specs.Calls.{formcheck}
use Rattle.model.specs.Line.{line_of, formcheck_line}
use Rattle.model.specs.Demands.{LinePromised, Presents}
use Rattle.model.proofs.Formcheck as model
use Rattle.model.proofs.LineLaws.{line_tells}
use Rattle.verdict_sizes.specs.Sizes.{names_bytes, sheet_bytes, form_bytes}
use Rattle.verdict_sizes.proofs.Whole.{whole}
use Rattle.verdict.proofs.line.Reads as reads

-- The promise that is proved of the code gives `LinePromised`, two of its `ensures` on the bytes that it is lent: `reads.Post` is how the
-- `ensures` of `line` read, of lifetimes κs, arguments a, answer r, and x, what the arguments hold at the end.
pub promised : (κs : _) (a : _) (r : ℕ) (x : _) → reads.Post κs a r x
    → LinePromised a.0.now a.1.0.now a.1.1.0.now a.1.1.1.0.now r x.1.1.1.0.now
promised κs a r x (count, (buffer, within)) = record { count = count; buffer = buffer }

-- `line`, lent the fronts that are read, leaves the line of the files in its first r bytes, and what stood behind them.
module _ (list file s : List ℕ) {out left : List ℕ} {r : ℕ}
    (promise : LinePromised (take names_bytes list) (take sheet_bytes file) (take form_bytes s) out r left) where
  pub line_left : take r left ≡ formcheck_line list file s
  line_left = ap (take r) promise.buffer ∙ take_at _ (drop r out) r (sym promise.count) ∙ whole list file s

  pub past_left : drop r left ≡ drop r out
  past_left = ap (drop r) promise.buffer ∙ drop_at (formcheck_line (take names_bytes list) (take sheet_bytes file) (take form_bytes s))
      (drop r out) r (sym promise.count)

  -- That is the line of an answer exactly when formcheck says it of the files …
  pub says : (x : Said) → (take r left ≡ line_of x) ↔ (formcheck list file s ≡ x)
  unfolding formcheck_line
  says x = (λ h. line_tells (formcheck list file s) x (sym line_left ∙ h), λ h. line_left ∙ ap line_of h)

  -- … so it says accepted exactly when the files present a sheet and a form that the sheet accepts.
  pub accepts : ((q m : ℕ) × (take r left ≡ line_of (accepted q m))) ↔
      ((t : Sheet) × (e : Element) × Presents list file s t e × Accepts t e)
  accepts = (
    λ x. let (q, m, h) = x in (model.accepts list file s).0 (q, m, (says (accepted q m)).0 h),
    λ x. let (q, m, h) = (model.accepts list file s).1 x in (q, m, (says (accepted q m)).1 h),
  )
