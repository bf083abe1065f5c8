use Rattle.std.proofs.Common.{IfOk, subst}
use Rattle.plant_base.specs.{stamp_of, State}
use Rattle.plant_trace.proofs.HoldsIfHonest.{HoldsIfHonest-then}
use Rattle.plant_view.specs.{Decides}
use Rattle.plant_rules.specs.{wrong_there, step_body, IsDecision}
use Rattle.plant_rules.proofs.ReceiptDecisions.{decided_plain, each_ok}
use Rattle.plant_rules.proofs.commands.decide_without_reference.Goals as goal

pub returns-clause-decides : goal.returns-clause-decides
returns-clause-decides g c =
    let s = g.V.View.state c.args.view.now in
    let e = c.args.envelope.now in
    let There : State → Type 0 = λ t. IfOk c.decide_after_reference.result (Decides (wrong_there t e) t (step_body t (stamp_of e) e.body)) in
    HoldsIfHonest-then {R = IfOk c.decide_after_reference.result (IsDecision s e)} g.met.V.Edges.kept_trans g.met.V.Edges.frame_trans c.in_ok-position.ensures c.decide_after_reference.ensures.decides
    (λ k p q. each_ok (decided_plain s e c.requires.formed c.requires.unnamed) c.decide_after_reference.result (subst There (g.met.V.View.kept_state _ _ k) q))
