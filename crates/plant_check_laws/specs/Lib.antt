pub mod Completeness
pub mod Soundness
pub use Soundness.{AreUnbroken, ChecksPassImpliesInvariant, UnbrokenHolds, UnbrokenIsRead, state_in}
