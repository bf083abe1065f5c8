use Rattle.std.proofs.Common.{◌∙◌, sym}
use Rattle.plant_rules.proofs.ChecksFollowConditions.{checked_accepted}
use Rattle.plant_trace.proofs.HoldsIfHonest.{HoldsIfHonest-weaker}
use Rattle.plant_rules.proofs.checking.check.Goals as goal

pub returns-in-None : goal.returns-in-None
returns-in-None g c =
    let s = g.V.View.state c.args.view.now in
    let e = c.args.envelope.now in
    HoldsIfHonest-weaker (λ decided. sym (checked_accepted s e (sym (c.refusal_in.ensures s e decided) ∙ c.in-None.is))) c.in_ok-decision.ensures.decides
