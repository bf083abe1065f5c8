-- The JSON trees of answers, and their texts with no blanks.
use Rattle.std.specs.Prelude.{ℕ, List, codes}
use Rattle.serde_json.specs.Data.{Data, string, object, member, no_members}
use Rattle.serde_json.specs.Written.{compact_text}
use Rattle.plant_base.specs.{job_state_name}
use Rattle.plant_questions.specs.{Answer, OrderAnswer}
use Rattle.plant_questions.specs.declared.question.Answer.TheVariants as A
use Rattle.plant_text_answers.specs.Balances.{balances_data, needs_data}
use Rattle.plant_text_answers.specs.BatchAnswers.{batch_data}
use Rattle.plant_text_answers.specs.EdgeAnswers.{genealogy_data}
use Rattle.plant_text_answers.specs.FoundAnswers.{found_data}
use Rattle.plant_text_answers.specs.ListAnswers.{listed_data}
use Rattle.plant_text_answers.specs.LotAnswers.{lot_data, stands_data}
use Rattle.plant_text_answers.specs.Natural.{natural}
use Rattle.plant_text_answers.specs.Parts.{id_or_null}
use Rattle.plant_text_answers.specs.RecallAnswers.{recall_data}
use Rattle.plant_text_answers.specs.RecipeAnswers.{definition_data, recipe_data, batch_lines_data}
use Rattle.plant_text_answers.specs.TraceAnswers.{trace_data}
use Rattle.plant_text_answers.specs.Replies.{refusal_text}

abbrev pub desk_data : ℕ → ℕ → Data
desk_data schema seq = object (member (codes "schema") (natural schema) (member (codes "seq") (natural seq) no_members))

abbrev pub moment_data : ℕ → Data
moment_data at = object (member (codes "at") (natural at) no_members)

abbrev pub order_data : OrderAnswer → Data
order_data a = object (member (codes "batch") (id_or_null a.batch) (member (codes "due") (string a.job.order.due) (member (codes "order") (string a.job.order.order)
    (member (codes "priority") (natural a.job.order.priority) (member (codes "recipe") (string a.job.order.recipe) (member (codes "size") (natural a.job.order.size)
    (member (codes "state") (string (job_state_name a.job.state)) (member (codes "version") (natural a.job.order.version) no_members))))))))

-- the text of an answer, without its LF; an unknown id is answered as a refusal
unfoldable pub text_of_answer : Answer → List ℕ
text_of_answer (A.Desk schema seq) = compact_text (desk_data schema seq)
text_of_answer (A.Lot lot) = compact_text (lot_data lot)
text_of_answer (A.Order order) = compact_text (order_data order)
text_of_answer (A.Batch v) = compact_text (batch_data v)
text_of_answer (A.Trace nodes) = compact_text (trace_data nodes)
text_of_answer (A.Stands lots) = compact_text (stands_data lots)
text_of_answer (A.Balance lots) = compact_text (balances_data lots)
text_of_answer (A.Edges genealogy) = compact_text (genealogy_data genealogy)
text_of_answer (A.Recall recall) = compact_text (recall_data recall)
text_of_answer (A.Moment at) = compact_text (moment_data at)
text_of_answer (A.List page) = compact_text (listed_data page)
text_of_answer (A.Definition definition) = compact_text (definition_data definition)
text_of_answer (A.Recipe recipe) = compact_text (recipe_data recipe)
text_of_answer (A.BatchLines lines) = compact_text (batch_lines_data lines)
text_of_answer (A.Needs needs) = compact_text (needs_data needs)
text_of_answer (A.Found found) = compact_text (found_data found)
text_of_answer (A.Unknown r) = refusal_text r
