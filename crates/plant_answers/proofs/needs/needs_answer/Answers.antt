use Rattle.std.proofs.Common.{◌≡◌, ◌∙◌, Some, sym, ap}
use Rattle.plant_base.specs.{job_at}
use Rattle.plant_trace.proofs.HoldsIfHonest.{HoldsIfHonest-then}
use Rattle.plant_answers.specs.Needs.{answer_needs}
use Rattle.plant_questions.specs.declared.question.Answer.TheVariants as A
use Rattle.plant_answers.proofs.needs.needs_answer.Goals as goal

pub returns : goal.returns
returns g c =
    let s = g.V.View.state c.args.view.now in
    HoldsIfHonest-then g.met.V.Edges.kept_trans g.met.V.Edges.frame_trans c.in_ok-job.ensures c.in_ok-needs.ensures (λ k p q sound.
    let found : job_at s c.args.order ≡ Some c.in-Some.job = sym p ∙ c.in-Some.is in
    let here = rw (g.met.V.View.kept_state _ _ k) at q in
    ap A.Needs (c.new.ensures ∙ here sound) ∙ ap (answer_needs s) (sym found))
