pub mod ReadContracts
pub mod Found
pub mod Given
pub mod Keys
pub mod Opened
pub mod Ordered
pub mod Paging
pub mod Plain
pub mod Reading
pub mod Rises
pub mod Selects
pub mod Written
pub use ReadContracts.{AnswersUnchanged, BeginsNone, FindsUnchanged, KeepsVisible}
pub use Found.{AreGiven, has_values}
pub use Given.{HasGivenRow}
pub use Keys.{comes_before, is_before, key_order, number_of, text_of, value_order}
pub use Opened.{IsNewlyOpened}
pub use Ordered.{IsRising}
pub use Paging.{AreBounds, IsPage, SelectsPage, is_beyond, is_compared, is_orderable, stored_order}
pub use Plain.{OnlyReads}
pub use Reading.{Finds, Lists}
pub use Selects.{all_column_indexes, column_at, first_of, is_at, is_binary, is_named, is_plain, is_readable, names_at}
pub use Written.{core_of, filter_after, from_table, greater, parsed_as, select_of, select_where, shown_column, sort_by, up_to}
pub use declared.page.RowPage.{RowPage}
