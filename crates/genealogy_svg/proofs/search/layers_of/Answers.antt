use Rattle.std.proofs.Common.{take, subst}
use Rattle.std.proofs.lemmas.List.Elements.{All-more, All-weaker}
use Rattle.genealogy_svg.specs.{IsLayered}
use Rattle.genealogy_svg.proofs.search.layers_of.Goals as goal

pub loop-node-preserved : goal.loop-node-preserved
loop-node-preserved c =
    let old = c.loop-node.layers in
    let new = c.layer_node.new.layers in
    let i = c.loop-node.node-index in
    record {
      settled = c.in_ok-layer_node.ensures.settled c.loop-node.invariant.settled;
      all = All-more (IsLayered new) c.args.nodes.now i c.node-item.result c.loop-node-test.true
          (All-weaker (IsLayered old) (IsLayered new) c.in_ok-layer_node.ensures.more (take i c.args.nodes.now) c.loop-node.invariant.all)
          (subst (IsLayered new) c.node-item.is c.in_ok-layer_node.ensures.has);
    }
