-- What a question is answered.
use Rattle.std.specs.Prelude.{ℕ, List, Option, Some, None, option_map}
use Rattle.plant_base.specs.{State, definition_at, recipe_at, lot_at, job_at, batch_at, batch_of, recall_at, Job}
use Rattle.plant_base.specs.declared.refusal.Refusal.TheVariants.{UnknownOrder}
use Rattle.plant_answers_genealogy.specs.{answer_balance, answer_stands, answer_edges, answer_lot, answer_recall, missing, answer_trace}
use Rattle.plant_answers.specs.BatchLines.{answer_batch_lines}
use Rattle.plant_answers.specs.BatchViews.{answer_batch}
use Rattle.plant_answers_pages.specs.{found_ids, answer_definition, answer_recipe}
use Rattle.plant_answers.specs.Needs.{answer_needs}
use Rattle.plant_answers.specs.ListAnswers.{answer_list}
use Rattle.plant_questions.specs.{Answer, OrderAnswer, Question}
use Rattle.plant_questions.specs.declared.question.Question.TheVariants as Q
use Rattle.plant_questions.specs.declared.question.Answer.TheVariants as A

abbrev pub order_answer : State → List ℕ → Job → OrderAnswer
order_answer s order j = record { job = j; batch = option_map (λ b. b.id) (batch_of s order) }

abbrev pub answer_order : State → List ℕ → Option Job → Answer
answer_order s order None = A.Unknown UnknownOrder
answer_order s order (Some j) = A.Order (order_answer s order j)

-- the answer of a desk whose tables are of schema k
unfoldable pub answer : ℕ → State → Question → Answer
answer k s Q.Desk = A.Desk k s.seq
answer k s (Q.Lot lot) = answer_lot s (lot_at s lot)
answer k s (Q.Order order) = answer_order s order (job_at s order)
answer k s (Q.Batch batch) = answer_batch s (batch_at s batch)
answer k s (Q.Trace direction start) = answer_trace s direction start (missing s start)
answer k s (Q.Stands start) = answer_stands s start (missing s start)
answer k s (Q.Balance start) = answer_balance s start (missing s start)
answer k s (Q.Edges direction start) = answer_edges s direction start (missing s start)
answer k s (Q.Recall recall) = answer_recall s (recall_at s recall)
answer k s Q.Moment = A.Moment s.at
answer k s (Q.List list) = answer_list s list
answer k s (Q.Definition def) = answer_definition (definition_at s def)
answer k s (Q.Recipe recipe version) = answer_recipe s (recipe_at s recipe version)
answer k s (Q.BatchLines batch) = answer_batch_lines s (batch_at s batch)
answer k s (Q.Needs order) = answer_needs s (job_at s order)
answer k s (Q.Find beginning) = A.Found (found_ids s beginning)
