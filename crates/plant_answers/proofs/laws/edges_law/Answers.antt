use Rattle.std.proofs.Common.{ap, sym, subst}
use Rattle.plant_trace.specs.{Lists}
use Rattle.plant_answers_genealogy.specs.{genealogy_around, answer_edges, IsAround}
use Rattle.plant_answers.specs.{answer}
use Rattle.plant_answers.proofs.EdgesAreBooked.{edges_sorted, edges_only, edges_all}
use Rattle.plant_answers_genealogy.proofs.GoodsAreReached.{around_lists}
use Rattle.plant_answers.proofs.NodesExist.{nodes_named}
use Rattle.plant_answers.proofs.laws.edges_law.Goals as goal

pub returns-clause-booked : goal.returns-clause-booked
unfolding answer
returns-clause-booked c k s direction start there =
    (genealogy_around s direction start, ap (answer_edges s direction start) there, edges_sorted s direction start, λ b. (edges_only s direction start b, edges_all s direction start b))

pub returns-clause-reached : goal.returns-clause-reached
unfolding answer
returns-clause-reached c k s direction start sound there =
    (genealogy_around s direction start, ap (answer_edges s direction start) there, subst (Lists (IsAround s direction start)) (sym (nodes_named s sound direction start there)) (around_lists s direction start))
