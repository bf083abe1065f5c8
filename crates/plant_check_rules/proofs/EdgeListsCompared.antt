-- Lists of edges that are compared row by row.
use Rattle.std.proofs.Common.{◌≡◌, List, true}
use Rattle.plant_base.specs.{edge_order, edge_eq, edge_ties, edge_total, EdgeRow}
use Rattle.plant_base.proofs.EdgeIsItsKey.{one_edge}
use Rattle.plant_check_rules.specs.{are_same_edges}
use Rattle.plant_requirements.proofs.SetsOfKeys as sets

pub same_itself : (es : List EdgeRow) → are_same_edges es es ≡ true
same_itself = sets.same_itself edge_order one_edge edge_total edge_eq edge_ties

pub same_list : (es fs : List EdgeRow) → are_same_edges es fs ≡ true → es ≡ fs
same_list = sets.same_list edge_order one_edge edge_total edge_eq edge_ties
