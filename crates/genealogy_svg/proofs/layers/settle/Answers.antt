use Rattle.std.proofs.Common.{◌∙◌, ap}
use Rattle.std.proofs.lemmas.Bool.{both_ways}
use Rattle.plant_trace.specs.{rank_of}
use Rattle.genealogy_svg.specs.{height}
use Rattle.genealogy_svg.proofs.LayersLoop.{settled_more}
use Rattle.genealogy_svg.proofs.layers.settle.Goals as goal

pub returns-in_ok-note-in-Some-clause-settled : goal.returns-in_ok-note-in-Some-clause-settled
returns-in_ok-note-in-Some-clause-settled c = λ settled.
    let highest = rw c.in-Some.is at c.in_ok-height.ensures.height in
    let all = rw c.in-Some.is at c.in_ok-height.ensures.all in
    settled_more c.args.ends.now.rows.now c.args.layers.now c.note.new.layers c.args.node.now c.in-Some.height c.in_ok-note-in-Some.ensures
    (λ had. both_ways _ c.if-is_layered.false (c.is_layered.ensures.1 had)) settled
    (highest ∙ ap (height (rank_of c.args.layers.now)) c.edges_to.ensures) (rw c.edges_to.ensures at all)
