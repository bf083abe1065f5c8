use Rattle.plant_keyed.proofs.CachedEdges.{in_turn, found_between}
use Rattle.plant_keyed.proofs.edge_cache.links_at.Goals as goal

pub slice_bounds-result-count : goal.slice_bounds-result-count
slice_bounds-result-count c = in_turn c.args.node.now c.args.links.now c.count_before-from.result c.count_up_to-to.result c.count_before-from.ensures.bound c.count_up_to-to.ensures.bound c.count_before-from.ensures.parted c.count_up_to-to.ensures.parted

pub slice_bounds-result-start : goal.slice_bounds-result-start
slice_bounds-result-start c = in_turn c.args.node.now c.args.links.now c.count_before-from.result c.count_up_to-to.result c.count_before-from.ensures.bound c.count_up_to-to.ensures.bound c.count_before-from.ensures.parted c.count_up_to-to.ensures.parted

pub returns : goal.returns
returns c = found_between c.args.node.now c.args.links.now c.count_before-from.result c.count_up_to-to.result c.count_before-from.ensures.bound c.count_up_to-to.ensures.bound c.count_before-from.ensures.parted c.count_up_to-to.ensures.parted
