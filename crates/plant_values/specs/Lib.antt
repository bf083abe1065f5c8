pub mod Dates
pub mod Digits
pub mod Options
pub mod ShortTexts
pub mod Values
pub use Dates.{is_due, is_due_byte, is_yes}
unfoldable pub use Dates.{due_day_of, is_due_day, two_of}
unfoldable pub use Digits.{digits_of}
pub use Options.{◌>>=◌}
pub use ShortTexts.{IsPadded, length_back, padded_back}
pub use Values.{begins_with_letter, greatest_amount, greatest_moment, greatest_phase, greatest_priority, greatest_seq, greatest_sublot, greatest_version, is_amount, is_id, is_id_byte, is_moment, is_text, is_text_byte, is_unit, is_unit_byte, only}
