use Rattle.std.proofs.Common.{◌≡◌, ◌∙◌, ◌<◌, ◌+◌, None, ap, subst, sym}
use Rattle.plant_base.specs.{greatest_seq, stamp_of, State, Position}
use Rattle.plant_trace.proofs.HoldsIfHonest.{HoldsIfHonest-then}
use Rattle.plant_view.specs.{Decides, position_of}
use Rattle.plant_rules.specs.{wrong_there, kept_among, kept_for, step_body, IsNoted}
use Rattle.plant_rules.proofs.ReceiptDecisions.{decided_noted}
use Rattle.plant_rules.proofs.commands.decide_first_use.Goals as goal

pub returns-clause-decides : goal.returns-clause-decides
returns-clause-decides g c =
    let s = g.V.View.state c.args.view.now in
    let e = c.args.envelope.now in
    let position = c.in_ok-position.position in
    let decision = c.in_ok-decision.decision in
    let made = c.in_ok-with_receipt.field-0 in
    let number = c.number_after-number.result in
    let There : State → Type 0 = λ t. Decides (wrong_there t e) t (step_body t (stamp_of e) e.body) decision in
    let At : Type 0 = position ≡ position_of s in
    let looked_up = HoldsIfHonest-then {R = At × There s} g.met.V.Edges.kept_trans g.met.V.Edges.frame_trans c.in_ok-position.ensures c.in_ok-decision.ensures.decides (λ k p q. (p, subst There (g.met.V.View.kept_state _ _ k) q)) in
    record {
      always = looked_up.always;
      before = looked_up.before;
      same = looked_up.same;
      holds = λ h.
          let found = looked_up.holds h in
          let new : kept_for s e ≡ None = ap (kept_among s.receipts) c.requires.named ∙ c.requires.new (looked_up.before h) in
          let seq : position.seq ≡ s.seq = ap (λ (p : Position). p.seq) found.0 in
          decided_noted s e c.args.reference number c.requires.formed c.requires.named new
          (λ low. c.number_after-number.ensures (subst (λ n. n < greatest_seq) (sym seq) low) ∙ ap (λ n. n + 1) seq)
          decision made found.1 (subst (λ text. IsNoted number c.args.reference text decision made) c.requires.content c.in_ok-with_receipt.ensures.noted);
    }
