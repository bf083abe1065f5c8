pub mod Reading
pub mod Columns
pub mod Naming
pub mod Booked
pub mod StatedRecalls
pub mod Kinds
pub mod TableColumns
pub mod PlainColumns
pub mod DecodedRows
pub mod ValidValues
pub mod ValidRows
pub use Reading.{amount_from, by_number, by_text, content_in, greatest_number, integer_in, is_in, is_no_text, is_null, line_number, or_null, text_in}
unfoldable pub use Reading.{content_from, due_from, flag_from, id_from, id_or_null, is_empty, line_number_from, moment_or_null, number_from, number_in, readable_or_null, sublot_or_null, text_from, unit_from}
pub use Columns.{Kind, made, one, read_row, ◌⊗◌}
pub use Naming.{all_batch_states, all_edge_kinds, all_job_states, all_line_kind_codes, all_mark_kinds, all_movement_kind_codes, all_recall_states, all_recipe_states, all_words, event_name, event_phase, line_kind_number, movement_kind_number, named, numbered, recall_state_name}
unfoldable pub use Naming.{batch_state_from, edge_kind_from, event_from, event_named, job_state_from, line_kind_from, mark_kind_from, movement_kind_from, plain_event, recall_state_from, recipe_state_from, word_named}
pub use Booked.{batch_named, booked_of, code_of, is_lot, kind_from, kind_of_code, lot_named, moved_as, names_nothing, other_lot, other_sublot, sublot_named}
unfoldable pub use Booked.{movement_from}
pub use StatedRecalls.{complete_lifting, has_no_lifting, lifting_from, lifting_of_state, moment_of_lift, note_of_lift, person_of_lift, recalled_with, state_by, stated_of}
unfoldable pub use StatedRecalls.{recall_from}
pub use Kinds.{always_one, batch_states, contents, dues, edge_kinds, flag, flags, ids, ids_or_none, job_states, line_numbers, mark_kinds, moments_or_none, movement_kind_codes, null_or, number, numbers, recall_states, recipe_states, sublot_numbers_or_none, texts, texts_or_none, units}
pub use TableColumns.{batch_columns, batch_event_columns, booked_columns, columns_of_line, control_line_columns, edge_columns, event_columns, header_columns, hold_columns, job_columns, line_columns, line_of_code, lot_columns, mark_columns, master_line_columns, meta_columns, order_columns, receipt_columns, recipe_columns, released_columns, row_of_batch, row_of_booked, row_of_control_line, row_of_edge, row_of_event, row_of_hold, row_of_job, row_of_lot, row_of_mark, row_of_master_line, row_of_meta, row_of_movement, row_of_recall, row_of_receipt, row_of_recipe, row_of_stated, row_of_sublot, stated_columns, sublot_columns}
pub use PlainColumns.{class_columns, definition_columns, row_of_class, row_of_definition}
unfoldable pub use TableColumns.{batch_event_from, batch_from, booked_from, control_line_from, edge_from, has_no_material, hold_from, job_from, line_from, lot_from, mark_from, master_line_from, material_from, movement_read, only_meta, parameter_from, phase_from, recall_read, receipt_from, recipe_from, stated_from, sublot_from}
unfoldable pub use PlainColumns.{class_from, definition_from}
pub use DecodedRows.{all_from}
pub use ValidValues.{HasBatchRowValues, HasControlLineValues, HasEdgeValues, HasEventRowValues, HasJobValues, HasKindRowValues, HasMarkValues, HasMasterLineValues, HasMovementRowValues, HasReceiptRowValues, HasRecipeValues, HasSublotValues, IsLineNumber}
pub use ValidRows.{HasValidValues}
pub use declared.booked.BookedRow.{BookedRow}
pub use declared.booked.MovementKindCode.{MovementKindCode}
pub use declared.recalls.RecallState.{RecallState}
pub use declared.recalls.StatedRecall.{StatedRecall}
