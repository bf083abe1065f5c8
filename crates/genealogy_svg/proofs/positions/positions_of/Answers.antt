use Rattle.std.proofs.Common.{◌≡◌, ◌∙◌, ◌+◌, List, [], ◌∷◌, ◌++◌, take, sym, ap, subst}
use Rattle.std.proofs.lemmas.List.{take_more}
use Rattle.plant_trace.specs.{Node}
use Rattle.genealogy_svg.proofs.PositionsLoop.{Placing, placed_more}
use Rattle.genealogy_svg.proofs.positions.positions_of.Goals as goal

pub loop-node-preserved : goal.loop-node-preserved
loop-node-preserved c =
    let i = c.loop-node.node-index in
    let v = c.node-item.result in
    let prefix : List Node = take i c.args.nodes.now in
    let more : take (i + 1) c.args.nodes.now ≡ prefix ++ v ∷ [] =
    take_more c.args.nodes.now i v c.loop-node-test.true ∙ ap (λ (y : Node). prefix ++ y ∷ []) (sym c.node-item.is) in
    let now = placed_more c.args.layers.now prefix c.loop-node.taken c.take.new.taken c.loop-node.positions c.note.new.positions v c.in-Some.position
    c.in_ok-take-in-Some.ensures c.in_ok-note-in-Some.ensures c.in-Some.ensures.free (c.in-Some.ensures.layer ∙ c.number_of.ensures) c.loop-node.invariant in
    let P : List Node → Type 0 = λ l. Placing c.args.layers.now l c.take.new.taken c.note.new.positions in
    subst P (sym more) now
