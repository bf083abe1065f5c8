use Rattle.std.proofs.Common.{◌∙◌, sym}
use Rattle.genealogy_svg.proofs.PathsAlongEdges.{way_more}
use Rattle.genealogy_svg.proofs.search.is_circle.Goals as goal

pub loop-node-preserved : goal.loop-node-preserved
loop-node-preserved c =
    way_more c.args.ends.now.rows.now c.args.first.now c.loop-node.last c.node-item.result c.loop-node.node-index c.loop-node.invariant
    (sym c.leads.ensures ∙ c.if-not-leads.false)
