pub mod Verdicts
pub mod Endings
pub use Verdicts.{conflict_in, conflicts_among}
