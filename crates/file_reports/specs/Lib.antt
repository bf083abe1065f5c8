pub mod OpenErrors
pub mod Barred
pub mod FileReports
pub mod Reports
pub mod Outcomes
pub mod Objects
pub mod Endings
pub mod Bound
pub use OpenErrors.{IsErrorText, error_of}
pub use Barred.{first_barred}
pub use FileReports.{HoldsRows, IsFileReportOf, IsHeldBy, IsHeldIn, IsReadAt, IsReportOf, first_reported}
pub use Reports.{barred_text, bound_text, counts_text, desk_text, each_text, findings_text, found_in, found_text, index_text, open_error_text, rule_line, summary_text}
pub use Outcomes.{IsFirstSentence, WritesOpening, held_text, opening_text}
pub use Objects.{broken_data, column_data, desk_data, each_data, file_report_data, findings_data, found_data, index_data, key_data, open_error_data, outcome_data, row_data, sentence_data, taken_data}
pub use Bound.{first_binder, table_of}
pub use declared.open_error.OpenError.{OpenError}
