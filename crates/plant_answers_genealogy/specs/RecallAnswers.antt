-- What is answered of a recall.
use Rattle.std.specs.Prelude.{ℕ, List, [], Option, Some, None, if◌then◌else◌}
use Rattle.plant_base.specs.{is_open, State, Recall}
use Rattle.plant_base.specs.declared.refusal.Refusal.TheVariants.{UnknownRecall}
use Rattle.plant_trace.specs.{node_cmp, Node}
use Rattle.plant_view.specs.{edges_of, nodes_from, put_all}
use Rattle.plant_questions.specs.{Answer, RecallAnswer}
use Rattle.plant_questions.specs.declared.question.Answer.TheVariants as A

-- what a recall of the lot reaches, ascending, each once
unfoldable pub reached_list : List (Node × Node) → List ℕ → List Node
reached_list pairs lot = put_all node_cmp (nodes_from pairs lot) []

-- what an open recall reaches, and nothing where there is none
abbrev pub nodes_of : State → Option Recall → List Node
nodes_of s None = []
nodes_of s (Some r) = if is_open r then reached_list (edges_of s) r.lot else []

abbrev pub recall_answer : State → Recall → RecallAnswer
recall_answer s r = record { recall = r.id; lot = r.lot; is_open = is_open r; nodes = nodes_of s (Some r) }

abbrev pub answer_recall : State → Option Recall → Answer
answer_recall s None = A.Unknown UnknownRecall
answer_recall s (Some r) = A.Recall (recall_answer s r)
