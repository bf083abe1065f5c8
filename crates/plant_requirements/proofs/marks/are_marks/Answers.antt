use Rattle.std.proofs.Common.{◌∙◌, sym, ap}
use Rattle.plant_view.specs.{edges_among}
use Rattle.plant_requirements.specs.{are_same_marks}
use Rattle.plant_requirements.proofs.MarksByRecall.{none_marked}
use Rattle.plant_requirements.proofs.marks.are_marks.Goals as goal

pub returns-then-not-is_some_open : goal.returns-then-not-is_some_open
returns-then-not-is_some_open c =
    let none = sym c.is_some_open.ensures ∙ c.if-not-is_some_open.true in
    c.are_none.ensures ∙ ap (are_same_marks c.args.rows.now) (sym (none_marked (edges_among c.args.movements.now) c.args.recalls.now none))
