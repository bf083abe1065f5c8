use Rattle.std.proofs.Common.{◌∙◌, All}
use Rattle.genealogy_svg.proofs.LayoutParts.{laid_out, outside}
use Rattle.genealogy_svg.proofs.EdgesLeadRight.{leads_right}
use Rattle.genealogy_svg.proofs.DanglingEnds.{lost_end}
use Rattle.genealogy_svg.specs.{nodes_of, IsLaidOut, LeadsRight, HasAmounts}
use Rattle.genealogy_svg.specs.declared.drawing.Drawing.{Drawing}
use Rattle.genealogy_svg.proofs.RowsLoop.{on_ok}
use Rattle.genealogy_svg.proofs.layouts.layout.Goals as goal

pub returns-in-Ok-clause-laid : goal.returns-in-Ok-clause-laid
returns-in-Ok-clause-laid c =
    on_ok (HasAmounts c.args.picture.now c.in-Ok.bare) (IsLaidOut c.args.picture.now) c.with_amounts.result
    (λ drawing amounts. laid_out c.args.picture.now c.in-Ok.bare drawing c.in_ok-layers.layers c.in_ok-positions.positions c.deref.result.now c.deref-3.result.now c.in_ok-ends.ends.rows.now
    (c.deref.ensures.value ∙ c.in_ok-nodes.ensures) (c.deref-3.ensures.value ∙ c.in_ok-nodes.ensures) (c.in_ok-ends.ensures ∙ c.as_slice.ensures)
    c.in_ok-layers.ensures.all c.in_ok-layers.ensures.settled c.in_ok-positions.ensures c.in-Ok.ensures.drawn amounts)
    c.with_amounts.ensures.shown

pub returns-in-Ok-clause-right : goal.returns-in-Ok-clause-right
returns-in-Ok-clause-right c =
    on_ok (IsLaidOut c.args.picture.now) (λ (drawing : Drawing). All LeadsRight drawing.edges) c.with_amounts.result
    (λ drawing laid. leads_right c.args.picture.now drawing laid) (returns-in-Ok-clause-laid c)

pub returns-clause-lost : goal.returns-clause-lost
returns-clause-lost c =
    outside c.in_ok-layers.layers c.in_ok-positions.positions (nodes_of c.args.picture.now) c.deref-3.result.now c.in-Err.fault
    (c.deref-3.ensures.value ∙ c.in_ok-nodes.ensures) c.in_ok-positions.ensures c.in-Err.ensures.unpositioned

pub returns-clause-end : goal.returns-clause-end
returns-clause-end c =
    lost_end c.in_ok-positions.positions c.args.picture.now c.in-Err.fault c.in-Err.ensures.lost
    (outside c.in_ok-layers.layers c.in_ok-positions.positions (nodes_of c.args.picture.now) c.deref-3.result.now c.in-Err.fault
    (c.deref-3.ensures.value ∙ c.in_ok-nodes.ensures) c.in_ok-positions.ensures c.in-Err.ensures.unpositioned)
