pub mod Groups
pub use Groups.{EndsAt, Rises, Searchable, StartsAt, is_keyed, rows_of}
