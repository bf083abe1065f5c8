use Rattle.std.proofs.Common.{◌∙◌}
use Rattle.plant_trace.proofs.HoldsIfHonest.{HoldsIfHonest-then}
use Rattle.plant_answers_genealogy.proofs.balances.lot_flows.Goals as goal

pub returns : goal.returns
returns g c =
    let s = g.V.View.state c.args.view.now in
    HoldsIfHonest-then g.met.V.Edges.kept_trans g.met.V.Edges.frame_trans c.in_ok-own.ensures c.in_ok-into.ensures (λ k p q sound.
    let here = rw (g.met.V.View.kept_state _ _ k) at q in
    c.flows_of.ensures s sound (c.as_slice.ensures.value ∙ p) (c.as_slice-2.ensures.value ∙ here))
