use Rattle.genealogy_svg.proofs.search.layer_node.Goals as goal

pub steps-preserved : goal.steps-preserved
steps-preserved c = record {
  settled = λ s. c.in_ok-descend.ensures.settled (c.steps.invariant.settled s);
  more = λ other h. c.in_ok-descend.ensures.more other (c.steps.invariant.more other h);
}
