pub mod CommandHeads
pub mod Finding
pub mod History
pub mod CommandWords
pub mod OpenBatches
pub mod SortedIds
pub mod RecipeAnswers
pub use CommandHeads.{command_page}
pub use Finding.{IsWithin, each_id_once, found_ids, id_if_begun, own_first, recipes_left}
pub use History.{history_page}
pub use OpenBatches.{batch_page, last_moment, open_batch, opened, phases_of, planned_of}
pub use RecipeAnswers.{answer_definition, answer_recipe, material_of, recipe_answer, recipe_line, unit_among}
