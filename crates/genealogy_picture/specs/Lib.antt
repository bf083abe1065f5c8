pub mod Answers
pub mod Drawing
pub mod Endings
pub mod Gathering
pub mod Members
pub mod Reading
pub mod ReadingState
pub mod Words
pub use Answers.{answer_into, edges_into, is_blank, nodes_into, text_into, ◌>>=◌}
unfoldable pub use Answers.{line_into}
pub use Drawing.{Draws, IsAbsent, IsLayoutError, IsNoSvg, IsRefused, IsTextError, IsTextOf, draw_error_of_kind, has_batch, has_lot, picture_in, read_count, whole}
pub use Members.{count_of}
pub use Reading.{read_from, start}
unfoldable pub use Reading.{reported_of}
pub use Words.{node_asked, format_of, names, picture_app}
