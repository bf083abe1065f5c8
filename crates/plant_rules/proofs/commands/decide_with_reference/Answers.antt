use Rattle.std.proofs.Common.{◌≡◌, ◌∙◌, Some, ap, subst, sym}
use Rattle.plant_trace.proofs.HoldsIfHonest.{HoldsIfHonest-weaker}
use Rattle.plant_rules.specs.{kept_among, kept_for, IsDecision, again_of}
use Rattle.plant_rules.proofs.ReceiptDecisions.{decided_again}
use Rattle.plant_rules.proofs.commands.decide_with_reference.Goals as goal

pub returns-in-Some-clause-decides : goal.returns-in-Some-clause-decides
returns-in-Some-clause-decides g c =
    let s = g.V.View.state c.args.view.now in
    let e = c.args.envelope.now in
    let receipt = c.in-Some.receipt in
    let again = c.decide_repeat.ensures ∙ ap (again_of receipt) (c.as_str.ensures.value ∙ c.in_ok-content.ensures) in
    HoldsIfHonest-weaker {Q = IsDecision s e c.decide_repeat.result} (λ found.
    let kept : kept_for s e ≡ Some receipt = ap (kept_among s.receipts) c.requires.named ∙ sym found ∙ c.in-Some.is in
    subst (IsDecision s e) (sym again) (decided_again s e receipt c.requires.formed kept)) c.in_ok-kept.ensures
