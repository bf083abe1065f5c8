pub mod CommandErrors
pub mod Reasons
pub mod Answers
pub mod Checks
pub use CommandErrors.{amounts_error, command_error_of, first_of, index_of, lines_again, lines_error, list_error, one_more, orders_error, pair_of, pair_with, parts_again, parts_error, recipe_error, too_much, unless}
pub use Reasons.{reason_text}
pub use declared.command_errors.CommandError.{CommandError}
pub use declared.reason.Reason.{Reason}
unfoldable pub use Answers.{check_text}
pub use Checks.{answer_by, check_answer}
pub use declared.answers.CheckAnswer.{CheckAnswer}
