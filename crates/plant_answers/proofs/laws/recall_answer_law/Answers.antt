use Rattle.std.proofs.Common.{Bool, List, [], cond, refl, sym, ap, subst}
use Rattle.plant_trace.specs.{Lists, IsRecalled, Node}
use Rattle.plant_view.specs.{edges_of}
use Rattle.plant_answers.specs.{answer}
use Rattle.plant_answers_genealogy.specs.{reached_list, recall_answer, answer_recall}
use Rattle.plant_answers_genealogy.proofs.RecalledNodesAreListed.{reached_lists}
use Rattle.plant_answers.proofs.laws.recall_answer_law.Goals as goal

pub returns : goal.returns
unfolding answer
returns c k s recall r there =
    let nodes : List Node = reached_list (edges_of s) r.lot in (
      recall_answer s r,
      ap (answer_recall s) there,
      record {
        recall = refl;
        lot = refl;
        state = refl;
        reached = λ unlifted. subst (λ (b : Bool). Lists (IsRecalled (edges_of s) r.lot) (cond b nodes [])) (sym unlifted) (reached_lists (edges_of s) r.lot);
        lifted = λ lifted. ap (λ (b : Bool). cond b nodes []) lifted;
      },
    )
