use Rattle.std.proofs.Common.{◌∙◌, List, subst, sym, ap, map}
use Rattle.plant_base.specs.{mark_order, Mark}
use Rattle.plant_trace.specs.{Lists, IsRecalled}
use Rattle.plant_view.specs.{mark_on, put_all}
use Rattle.plant_requirements.proofs.MarksByRecall.{marks_next, marks_lifted}
use Rattle.plant_requirements.proofs.marks.mark_reached.Goals as goal

pub returns-clause-marks : goal.returns-clause-marks
returns-clause-marks c prefix e =
    let pairs = c.args.edges.now.pairs.now in
    let r = c.args.recall.now in
    let unlifted = sym c.is_open.ensures ∙ c.if-not-is_open.false in
    let lists = subst (Lists (IsRecalled pairs r.lot)) (sym c.deref.ensures.value) c.in_ok-nodes.ensures.lists in
    c.in_ok-note_marks.ensures ∙ ap (λ (rows : List Mark). put_all mark_order (map (mark_on r.id) c.deref.result.now) rows) e ∙ sym (marks_next pairs prefix r c.deref.result.now unlifted lists)

pub returns-then-not-is_open-clause-marks : goal.returns-then-not-is_open-clause-marks
returns-then-not-is_open-clause-marks c prefix e =
    let lifted = sym c.is_open.ensures ∙ c.if-not-is_open.true in
    e ∙ sym (marks_lifted c.args.edges.now.pairs.now prefix c.args.recall.now lifted)
