-- `put_steps` meets its contract.
use mathlib.Core.Path.{refl, ap}
use mathlib.Core.List.{map}
use Rattle.model.proofs.PartLaws.{each_next, each_none}
use Rattle.page.proofs.PageLaws.{begun, more, done}
use Rattle.join_count.specs.Steps.{StepOf}
use Rattle.join_count.proofs.StepWords.{few_states}
use Rattle.join_count.proofs.StepLaws.{no_step}
use Rattle.join_count.proofs.Lift.put_steps.Goals as goal

pub of-step-items-requires : goal.of-step-items-requires
of-step-items-requires c = (_, few_states c.args.self, c.requires)

pub loop-step-init : goal.loop-step-init
loop-step-init c = (
  tt,
  tt,
  λ ss h.
      let all = c.of-step-items.ensures _ (few_states c.args.self) ss h in
      (ss, rw c.into_iter-step-iterator.ensures.into_iter_gives all, begun refl),
)

pub put_step-requires : goal.put_step-requires
put_step-requires c =
    let (_, _, inv) = c.loop-step.invariant in
    let (rest, left, _) = inv _ c.requires.1 in
    let v = c.in-Some.ensures.steps.first _ rest left in
    (v.step, record { is = v.is; ranges = v.ranges })

pub loop-step-preserved : goal.loop-step-preserved
loop-step-preserved c =
    let (_, _, inv) = c.loop-step.invariant in (
      tt,
      tt,
      λ ss h.
          let (rest, left, page) = inv ss h in
          let v = c.in-Some.ensures.steps.first _ rest left in
          let step : StepOf c.args.self _ v.step = record { is = v.is; ranges = v.ranges } in
          (v.others, v.left, more page (each_next _ (ap (map _) v.split)) (c.put_step.ensures _ step)),
    )

pub returns : goal.returns
returns c = λ ss h.
    let (_, _, inv) = c.loop-step.invariant in
    let (rest, left, page) = inv ss h in
    done page (each_none _ (ap (map _) (no_step left c.in-None.ensures.steps)))
