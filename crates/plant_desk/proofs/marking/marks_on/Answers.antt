use Rattle.std.proofs.Common.{◌∙◌, ap, sym, map, List}
use Rattle.plant_trace.proofs.HoldsIfHonest.{HoldsIfHonest-weaker}
use Rattle.plant_view.specs.{mark_on}
use Rattle.plant_base.specs.{Recall}
use Rattle.plant_desk.proofs.RecallsOfNode.{on_by_back, none_on}
use Rattle.plant_desk.proofs.marking.marks_on.Goals as goal

pub returns-then-not-is_some_open : goal.returns-then-not-is_some_open
returns-then-not-is_some_open g c =
    let pairs = g.E.Edges.pairs c.args.edges.now in
    let none = sym c.is_some_open.ensures ∙ c.if-not-is_some_open.true in
    record {
      always = g.met.E.Edges.frame_refl _;
      before = λ h. h;
      same = λ h. g.met.E.Edges.kept_refl _;
      holds = λ h. c.new.ensures.items ∙ sym (ap (λ (rs : List Recall). map (λ (r : Recall). mark_on r.id c.args.node) rs) (none_on c.args.recalls.now pairs c.args.node none));
    }

pub returns : goal.returns
returns g c =
    let pairs = g.E.Edges.pairs c.args.edges.now in
    HoldsIfHonest-weaker
    (λ l. c.in_ok-marks_by.ensures ∙ ap (λ (rs : List Recall). map (λ (r : Recall). mark_on r.id c.args.node) rs) (on_by_back pairs c.args.node c.deref.result.now (rw (← c.deref.ensures.value) at l) c.args.recalls.now))
    c.in_ok-before.ensures.reported
