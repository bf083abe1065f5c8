pub mod Naming
pub mod TableNames
pub mod Texts
pub mod First
pub mod Keys
pub mod Catalogue
pub mod Recipes
pub mod Orders
pub mod Batches
pub mod Events
pub mod Marks
pub mod Movements
pub mod Numbering
pub mod Recalls
pub mod Receipts
pub mod Times
pub use Naming.{column_name}
pub use TableNames.{all_tables, table_name}
pub use Texts.{fault_text, found_text, wanted_text}
pub use First.{Column, Found, RowKey, RowFault, Table, Wanted, Requirement, first_unmet, fault_unless, first_reported, or_fault, as_a_whole, in_column, names_none}
pub use Keys.{booked_key, control_line_key, edge_key, hold_key, id_key, mark_key, number_key, recipe_key, recipe_line_key, sublot_key}
pub use declared.value_rule.ValueRule.{ValueRule}
pub use Catalogue.{class_fault, class_fault_in, is_class_among}
pub use Recipes.{are_numbered, are_recipes, is_recipe_among}
unfoldable pub use Recipes.{is_consistent_recipe}
pub use Orders.{is_started, of_order, order_fault, order_fault_in, recipe_among, row_of_order}
pub use Batches.{batch_fault, batch_fault_in, control_line_fault, of_batch, control_asked_for, control_if_well_formed, control_of_found, control_sized, is_control, is_row_among}
pub use Events.{are_events, is_run, kept_progress}
unfoldable pub use Events.{has_right_run}
pub use Marks.{are_marks, are_same_marks}
pub use Movements.{are_distinct, are_movements, are_of_one, are_parts, is_asked_for, is_batch_there, is_merged, is_of_right_definition, is_of_right_merge, is_there, is_yielded, lot_among, names_known, parts_of}
unfoldable pub use Movements.{is_right_movement}
pub use Numbering.{are_lines, are_numbers, is_apart, is_entered_before, is_given, is_next_line, is_next_part}
unfoldable pub use Numbering.{has_right_number}
pub use Recalls.{are_recalls, is_lifted_between, is_right_recall, is_timely}
pub use Receipts.{of_receipt, receipt_fault, receipt_fault_in, seqs_of}
pub use Times.{are_by, are_times, is_no_later, never_fall, rises, row_mark_of, row_mark_of_event, row_marks}
