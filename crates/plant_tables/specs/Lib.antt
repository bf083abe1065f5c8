pub mod DeskTableDefs
pub mod DeskIndexes
pub mod DeskTables
pub mod KeyedRows
pub mod Keyed
pub mod DeskCrashStates
pub mod PutStatements
pub mod Schemas
pub mod MigrationStepContract
pub mod Missing
pub mod Loading
pub mod Readings
pub mod Version
pub mod LoadingContracts
pub mod RowLists
pub mod DecodedTables
pub mod ReadingLaws
pub use DeskTableDefs.{batch_event_table, batch_table, class_table, control_line_table, definition_table, desk_table_defs, hold_table, job_table, later_table_defs, lot_table, mark_table, meta_table, movement_table, recall_table, receipt_table, recipe_line_table, recipe_table, sublot_table, table_defs_of}
pub use DeskIndexes.{added_indexes, desk_indexes, fourth_indexes, indexes_of, second_indexes}
pub use DeskTables.{all_rows_changed, contents_of, rows_of}
unfoldable pub use DeskTables.{rows_changed}
pub use Keyed.{AreFresh, AreOfSchema, HoldsTables, HoldsTablesOf, IsFresh, MovesTables, MovesTablesOf}
pub use KeyedRows.{AreKeyed, IsOfSchema, LacksLater}
pub use DeskCrashStates.{FailureLeaves, FailureLeavesOf, FindsOf, FindsTables, IsAt, IsAtOf, IsUnopened, MakesDesk, opening_tables}
pub use PutStatements.{OnlyAdds}
pub use Schemas.{AreMigratable, IsOlder, MigratesTables, migration}
pub use Missing.{AddsMissing, AreAllTaken, CreateLacking, CreatesIndexes, CreatesMissingIndexes, HasCreatedIndexes, is_missing, lacking, missing_in}
pub use Loading.{AreLoaded, AreRising, HasOthers, Loads, contents_loaded}
pub use Readings.{SelectsAll}
pub use Version.{HasTablesOf, IsKnown, IsValidMeta, IsVersion, row_of}
pub use DecodedTables.{AreInOrder, AreWhole}
pub use RowLists.{Rows, rows_in, tables_in}
unfoldable pub use RowLists.{rows_with_movements, rows_from, rows_listed}
pub use declared.desk_rows.DeskRows.{DeskRows}
pub use declared.finding.FoundTables.{FoundTables}
pub use declared.loaded.Loaded.{Loaded}
