pub mod Answers
pub mod Balances
pub mod BatchAnswers
pub mod EdgeAnswers
pub mod FoundAnswers
pub mod ListAnswers
pub mod LotAnswers
pub mod Natural
pub mod Parts
pub mod RecallAnswers
pub mod RecipeAnswers
pub mod Replies
pub mod TraceAnswers
pub mod Record
pub use Answers.{order_data}
unfoldable pub use Answers.{text_of_answer}
pub use Balances.{balance_item, balances_data, need_item, needs_data}
pub use BatchAnswers.{batch_data, booking_data}
pub use EdgeAnswers.{edge_item, genealogy_data, node_item}
pub use FoundAnswers.{found_data}
pub use ListAnswers.{all_holds_item, batch_item, class_item, command_data, command_item, named_data, named_item, definition_item, hold_item, lifted_item, lifting_or_null, listed_data, lot_item, movement_item, order_item, other_sub, recall_item, recipe_item, planned_or_null, stock_item, stock_row_item}
pub use LotAnswers.{lot_data, standing_data, stands_data}
pub use Natural.{natural}
pub use Parts.{id_or_null, number_or_null, sublot_data, text_or_null, unit_or_null}
pub use RecallAnswers.{recall_data}
pub use RecipeAnswers.{batch_lines_data, booked_line_data, booked_line_item, recipe_data, recipe_line_data, recipe_line_item}
unfoldable pub use Replies.{fault_text, reply_text}
pub use TraceAnswers.{node_data, trace_data}
pub use Record.{consumed_text, control_text, event_text, produced_text, section}
unfoldable pub use Record.{record_text, right_in}
