pub mod Importing
pub mod Numbers
pub mod Orders
pub mod ReaderPosition
pub mod FaultsOfFiles
pub mod EveryFault
pub mod Law
pub use Importing.{import}
unfoldable pub use Numbers.{bounded}
pub use Orders.{FailsAs, Gives, due_of, fault, file_of, id_of, is_header, kind_name, rows_of, ◌>>=◌}
unfoldable pub use Orders.{order_of, orders_of}
pub use ReaderPosition.{GaveNext, ReaderIsAt}
pub use FaultsOfFiles.{FaultOfFile, csv_text, fault_of_kind, read_count}
pub use EveryFault.{IsExaminedOf, faults_from, faults_in, field_fault, field_faults, orders_from, orders_in, row_orders, whole_fault}
unfoldable pub use EveryFault.{faults_of, numbered_orders_of, row_faults}
pub use declared.examining.NumberedOrder.{NumberedOrder}
pub use declared.fault.CsvFault.{CsvFault}
pub use declared.fault.CsvKind.{CsvKind}
pub use declared.importing.ImportMetadata.{ImportMetadata}
pub use declared.source.OrdersFault.{OrdersFault}
