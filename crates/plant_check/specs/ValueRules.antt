-- The rules of stored values.
use Rattle.std.specs.Prelude.{ℕ, ℤ, pos, negsuc, Bool, true, false, ◌||◌, List, [], ◌∷◌, ◌++◌, map, codes}
use Rattle.std.specs.List.{list_any}
use Rattle.sqlite.specs.declared.types.Value.{Value}
use Rattle.sqlite.specs.declared.types.Value.TheVariants as value
use Rattle.plant_base.specs.{is_due, same, is_id, is_text, is_unit, recipe_state_name, job_state_name, batch_state_name, word_name}
use Rattle.plant_tables_columns.specs.{all_recipe_states, all_job_states, all_batch_states, all_recall_states, all_words, recall_state_name, is_in, is_no_text}
use Rattle.plant_requirements.specs.declared.value_rule.ValueRule.{ValueRule}
use Rattle.plant_requirements.specs.declared.value_rule.ValueRule.TheVariants as rule

abbrev pub allows_null : ValueRule → Bool
allows_null rule.IdOrNull = true
allows_null rule.TextOrNull = true
allows_null (rule.NumberOrNull low high) = true
allows_null _ = false

abbrev pub is_from_to : ℕ → ℕ → ℤ → Bool
is_from_to low high (pos n) = is_in low high n
is_from_to low high (negsuc n) = false

abbrev pub allows_number : ValueRule → ℤ → Bool
allows_number (rule.Number low high) n = is_from_to low high n
allows_number (rule.NumberOrNull low high) n = is_from_to low high n
allows_number rule.Whole n = true
allows_number _ n = false

-- the words that the rule allows: those of all states, or of what happened to a batch, which may be a phase that was done, or its closing
abbrev pub words_of : ValueRule → List (List ℕ)
words_of rule.RecipeState = map recipe_state_name all_recipe_states
words_of rule.JobState = map job_state_name all_job_states
words_of rule.BatchState = map batch_state_name all_batch_states
words_of rule.RecallState = map recall_state_name all_recall_states
words_of rule.EventWord = map word_name all_words ++ codes "phase" ∷ codes "close" ∷ []
words_of _ = []

abbrev pub is_word_of : ValueRule → List ℕ → Bool
is_word_of r bytes = list_any (λ word. same word bytes) (words_of r)

abbrev pub allows_text : ValueRule → List ℕ → Bool
allows_text rule.Id bytes = is_id bytes
allows_text rule.IdOrNull bytes = is_id bytes
allows_text rule.IdOrEmpty bytes = is_id bytes || is_no_text bytes
allows_text rule.Text bytes = is_text bytes
allows_text rule.TextOrNull bytes = is_text bytes
allows_text rule.AnyText bytes = true
allows_text rule.Unit bytes = is_unit bytes
allows_text rule.Due bytes = is_due bytes
allows_text r bytes = is_word_of r bytes

abbrev pub obeys : ValueRule → Value → Bool
obeys r value.Null = allows_null r
obeys r (value.Int n) = allows_number r n
obeys r (value.Real x) = false
obeys r (value.Text bytes) = allows_text r bytes
obeys r (value.Blob bytes) = false
