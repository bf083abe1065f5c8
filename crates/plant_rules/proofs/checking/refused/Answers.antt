use Rattle.std.proofs.Common.{◌∙◌, sym, ap}
use Rattle.plant_rules.specs.declared.checking.Checked.TheVariants.{Refused}
use Rattle.plant_rules.proofs.ChecksFollowConditions.{checked_refused}
use Rattle.plant_trace.proofs.HoldsIfHonest.{HoldsIfHonest-weaker}
use Rattle.plant_rules.proofs.checking.refused.Goals as goal

pub returns : goal.returns
returns g c =
    HoldsIfHonest-weaker (λ found sound w. ap (Refused c.args.refusal) (found sound) ∙ sym (checked_refused (g.V.View.state c.args.view.now) c.args.envelope.now c.args.refusal w)) c.in_ok-item.ensures
