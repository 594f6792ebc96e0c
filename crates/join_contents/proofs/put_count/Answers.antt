-- `put_count` meets its contract: one answer for each of the four cases.
use Rattle.page.specs.Page.{Writes}
use Rattle.page.proofs.PageLaws.{nothing}
use Rattle.join_contents.proofs.ContentLaws.{counts-joined, count-S_lifted, count-T_lifted, no_counts}
use Rattle.join_contents.proofs.put_count.Goals as goal

pub returns-in-Some-Some : goal.returns-in-Some-Some
returns-in-Some-Some c =
    counts-joined c.args.rules.now (λ ws. Writes c.args.page.now ws c.join_counts.new.page) c.in-Some-Some.ensures c.in-Some-Some.ensures'
    c.join_counts.ensures

pub returns-in-Some-None : goal.returns-in-Some-None
returns-in-Some-None c =
    count-S_lifted c.args.rules.now (λ ws. Writes c.args.page.now ws c.lift_count.new.page) c.in-Some-None.ensures c.in-Some-None.ensures'
    (rw c.half.ensures at c.lift_count.ensures)

pub returns-in-None-Some : goal.returns-in-None-Some
returns-in-None-Some c =
    count-T_lifted c.args.rules.now (λ ws. Writes c.args.page.now ws c.lift_count-in-None-Some.new.page) c.in-None-Some.ensures
    c.in-None-Some.ensures' (rw c.half-in-None-Some.ensures at c.lift_count-in-None-Some.ensures)

pub returns-in-None-None : goal.returns-in-None-None
returns-in-None-None c =
    let page = c.args.page.now in
    no_counts c.args.rules.now (λ ws. Writes page ws page) c.in-None-None.ensures c.in-None-None.ensures' (nothing page)
