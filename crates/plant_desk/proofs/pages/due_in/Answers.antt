use Rattle.std.proofs.Common.{◌≡◌, ◌∙◌, List, IfOk, filter, map, ap, subst}
use Rattle.plant_base.specs.{Job}
use Rattle.plant_questions.specs.declared.keys.ByDue.{ByDue}
use Rattle.plant_questions.specs.{in_order, due_order, is_due_in}
use Rattle.plant_desk.proofs.SortedRows.{sorted_held}
use Rattle.plant_desk.proofs.pages.due_in.Goals as goal

pub returns : goal.returns
returns c =
    let held : ByDue → Job = λ r. r.0 in
    let sorted : map held c.as_slice.result.now ≡ in_order due_order (filter (is_due_in c.args.state c.args.cursor) c.args.jobs.now) =
    ap (map held) (c.as_slice.ensures.value ∙ c.in_ok-sorted.ensures) ∙ sorted_held held due_order c.in_ok-rows.rows.items ∙ ap (in_order due_order) c.in_ok-rows.ensures in
    subst (λ (jobs : List Job). IfOk c.jobs_of.result (λ v. v.items ≡ jobs)) sorted c.jobs_of.ensures
