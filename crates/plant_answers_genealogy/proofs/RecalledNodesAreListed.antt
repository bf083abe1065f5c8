-- A list of what a recall reaches is the one that is answered.
use Rattle.std.proofs.Common.{◌≡◌, ℕ, List, [], ⊎_elim}
use Rattle.std.specs.List.Sorted.{IsStrictlySortedBy}
use Rattle.plant_trace.specs.{node_cmp, node_total, Lists, IsRecalled, Node}
use Rattle.plant_trace.proofs.LeadsIsReach.{none_in}
use Rattle.plant_trace.proofs.SortedNodes.{Lists-unique}
use Rattle.plant_trace.proofs.NodeOrder.{node_exact}
use Rattle.plant_view.specs.{nodes_from}
use Rattle.plant_view.proofs.MarkChanges.{nodes_iff}
use Rattle.plant_view.proofs.Membership.{all_in, put_all_from, sorted_put_all}
use Rattle.plant_answers_genealogy.specs.{reached_list}

pub reached_lists : (pairs : List (Node × Node)) (lot : List ℕ) → Lists (IsRecalled pairs lot) (reached_list pairs lot)
unfolding IsStrictlySortedBy reached_list
reached_lists pairs lot = record {
  ascending = sorted_put_all node_cmp node_total (nodes_from pairs lot) [] tt;
  only = λ y h. ⊎_elim (λ i. (nodes_iff pairs lot y).0 i) (λ n. absurd (none_in y n)) (put_all_from node_cmp node_total (nodes_from pairs lot) y [] h);
  all = λ y r. all_in node_cmp node_total node_exact (nodes_from pairs lot) y [] ((nodes_iff pairs lot y).1 r);
}

pub reached_is : (pairs : List (Node × Node)) (lot : List ℕ) (nodes : List Node) → Lists (IsRecalled pairs lot) nodes → nodes ≡ reached_list pairs lot
reached_is pairs lot nodes lists = Lists-unique (IsRecalled pairs lot) nodes (reached_list pairs lot) lists (reached_lists pairs lot)
