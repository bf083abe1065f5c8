use Rattle.std.proofs.Common.{◌∙◌}
use Rattle.std.proofs.lemmas.List.Filters.{dedup_is}
use Rattle.plant_base.proofs.EdgeIsItsKey.{one_edge}
use Rattle.plant_base.specs.{edge_order, edge_eq, edge_ties, edge_total}
use Rattle.plant_check_rules.proofs.SortedDistinctIsPutAll.{sorted_once}
use Rattle.plant_check_rules.proofs.edges.put_in_order.Goals as goal

pub returns : goal.returns
returns c = dedup_is edge_eq c.sort_unstable.new.self.items c.dedup.new.self.items c.dedup.ensures.filtered
    ∙ sorted_once edge_order one_edge edge_eq edge_ties edge_total c.args.edges.now.items c.sort_unstable.new.self.items c.sort_unstable.ensures.permutation c.sort_unstable.ensures.sorted
