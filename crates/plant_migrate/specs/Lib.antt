pub mod Migrated
pub mod Steps
pub mod FailureLeaves
pub mod MigrationContracts
pub use Migrated.{AreEdges, added_rows, edge_booked, edge_change, edges_from, migrated_by, migrated_once}
pub use Steps.{FailureLeavesWithin, FindsMigratable, IsMigratedBy, IsMigratedOnce, IsMigratable}
pub use FailureLeaves.{FailureLeavesAmid, FindsBetween, HasKnownVersion, IsBetween, IsMigratedFrom, IsMigratedTo, IsRead, IsReadable, migrated_to}
pub use MigrationContracts.{raise_fault}
