pub mod TableDefs
pub mod Rows
pub mod StoredRows
pub mod AtRest
pub mod Views
pub mod Written
pub mod Texts
pub mod Moves
pub mod Indexes
pub mod CrashStates
pub use TableDefs.{TableDef, column_of, integer, integer_or_null, plains, strict_column, table_of, text, text_or_null}
pub use Rows.{column_indexes_from, columns_of, delete_by_key, fits_columns, fits_kind, has_values, meets, padded, put, same_key}
pub use StoredRows.{AreFree, Contents, HasStoredRows, HasTable, HaveStoredRows, IsDeclared, IsFree, IsUnnamed, KeepsOtherTables, is_among}
pub use AtRest.{IsAtRest, Keeps}
unfoldable pub use Views.{ast_views}
pub use Written.{Name, column_expr, equals, equals_from, excluded_expr, excluded_sets, filter_of}
pub use Texts.{IsCreateStatement, IsDeleteStatement, IsInsertStatement, IsPutStatement, IsUpsertStatement, are_above, definition_in, names_in, parameters_from, parse_or, rows_in, taking, terms_of, updating}
pub use Moves.{AreApart, AreCreateStatements, CreatesTables, DeletesRows, Founds, KeepsFurtherNamesFree, KeepsNamesFree, RunsInside, Upserts, all_differ, changed_at, differs_from, taken_at}
pub use Indexes.{AddsIndexes, AreCreateIndexStatements, AreOf, HasIndex, IndexDef, IsCreateIndexStatement, MakesIndexes, are_named_apart, index_in, index_of}
pub use CrashStates.{IsSettled, IsUndone}
pub use declared.fault.StoreFault.{StoreFault}
pub use declared.table_def.CreateIndexStatement.{CreateIndexStatement}
