use Rattle.std.proofs.Common.{string_bytes, ◌∙◌, ap}
use Rattle.plant_text_answers.specs.{balances_data, needs_data, text_of_answer, stands_data, trace_data}
use Rattle.plant_text_answers.proofs.AnswersHaveNoFloats.{text_is, no_float_in_lot, no_float_in_batch, no_float_in_trace, no_float_in_stands, no_float_in_balances, no_float_in_needs, no_float_in_genealogy, no_float_in_recall, no_float_in_listed, no_float_in_recipe, no_float_in_batch_lines, no_float_in_found}
use Rattle.plant_text_answers.proofs.answers.answer_text.Goals as goal

pub returns-in_ok-lot_value-in-Lot : goal.returns-in_ok-lot_value-in-Lot
unfolding text_of_answer
returns-in_ok-lot_value-in-Lot c = rw c.in-Lot.is (text_is string_bytes _ _ _ c.in_ok-lot_value-in-Lot.ensures (no_float_in_lot c.in-Lot.lot) c.to_string-in-Lot.ensures.text)

pub returns-in_ok-batch_value-in-Batch : goal.returns-in_ok-batch_value-in-Batch
unfolding text_of_answer
returns-in_ok-batch_value-in-Batch c = rw c.in-Batch.is (text_is string_bytes _ _ _ c.in_ok-batch_value-in-Batch.ensures (no_float_in_batch c.in-Batch.batch) c.to_string-in-Batch.ensures.text)

pub returns-in_ok-trace_value-in-Trace : goal.returns-in_ok-trace_value-in-Trace
unfolding text_of_answer
returns-in_ok-trace_value-in-Trace c = rw c.in-Trace.is (text_is string_bytes _ _ _ (c.in_ok-trace_value-in-Trace.ensures ∙ ap trace_data c.as_slice.ensures) (no_float_in_trace c.in-Trace.nodes) c.to_string-in-Trace.ensures.text)

pub returns-in_ok-stands_value-in-Stands : goal.returns-in_ok-stands_value-in-Stands
unfolding text_of_answer
returns-in_ok-stands_value-in-Stands c = rw c.in-Stands.is (text_is string_bytes _ _ _ (c.in_ok-stands_value-in-Stands.ensures ∙ ap stands_data c.as_slice-in-Stands.ensures) (no_float_in_stands c.in-Stands.lots) c.to_string-in-Stands.ensures.text)

pub returns-in_ok-genealogy_value-in-Edges : goal.returns-in_ok-genealogy_value-in-Edges
unfolding text_of_answer
returns-in_ok-genealogy_value-in-Edges c = rw c.in-Edges.is (text_is string_bytes _ _ _ c.in_ok-genealogy_value-in-Edges.ensures (no_float_in_genealogy c.in-Edges.genealogy) c.to_string-in-Edges.ensures.text)

pub returns-in_ok-recall_value-in-Recall : goal.returns-in_ok-recall_value-in-Recall
unfolding text_of_answer
returns-in_ok-recall_value-in-Recall c = rw c.in-Recall.is (text_is string_bytes _ _ _ c.in_ok-recall_value-in-Recall.ensures (no_float_in_recall c.in-Recall.recall) c.to_string-in-Recall.ensures.text)

pub returns-in_ok-listed_value-in-List : goal.returns-in_ok-listed_value-in-List
unfolding text_of_answer
returns-in_ok-listed_value-in-List c = rw c.in-List.is (text_is string_bytes _ _ _ c.in_ok-listed_value-in-List.ensures (no_float_in_listed c.in-List.listed) c.to_string-in-List.ensures.text)

pub returns-in_ok-recipe_value-in-Recipe : goal.returns-in_ok-recipe_value-in-Recipe
unfolding text_of_answer
returns-in_ok-recipe_value-in-Recipe c = rw c.in-Recipe.is (text_is string_bytes _ _ _ c.in_ok-recipe_value-in-Recipe.ensures (no_float_in_recipe c.in-Recipe.recipe) c.to_string-in-Recipe.ensures.text)

pub returns-in_ok-batch_lines_value-in-BatchLines : goal.returns-in_ok-batch_lines_value-in-BatchLines
unfolding text_of_answer
returns-in_ok-batch_lines_value-in-BatchLines c = rw c.in-BatchLines.is (text_is string_bytes _ _ _ c.in_ok-batch_lines_value-in-BatchLines.ensures (no_float_in_batch_lines c.in-BatchLines.lines) c.to_string-in-BatchLines.ensures.text)

pub returns-in_ok-balances_value-in-Balance : goal.returns-in_ok-balances_value-in-Balance
unfolding text_of_answer
returns-in_ok-balances_value-in-Balance c = rw c.in-Balance.is (text_is string_bytes _ _ _ (c.in_ok-balances_value-in-Balance.ensures ∙ ap balances_data c.as_slice-in-Balance.ensures) (no_float_in_balances c.in-Balance.lots) c.to_string-in-Balance.ensures.text)

pub returns-in_ok-needs_value-in-Needs : goal.returns-in_ok-needs_value-in-Needs
unfolding text_of_answer
returns-in_ok-needs_value-in-Needs c = rw c.in-Needs.is (text_is string_bytes _ _ _ (c.in_ok-needs_value-in-Needs.ensures ∙ ap needs_data c.as_slice-in-Needs.ensures) (no_float_in_needs c.in-Needs.needs) c.to_string-in-Needs.ensures.text)

pub returns-in_ok-found_value-in-Found : goal.returns-in_ok-found_value-in-Found
unfolding text_of_answer
returns-in_ok-found_value-in-Found c = rw c.in-Found.is (text_is string_bytes _ _ _ c.in_ok-found_value-in-Found.ensures (no_float_in_found c.in-Found.found) c.to_string-in-Found.ensures.text)
