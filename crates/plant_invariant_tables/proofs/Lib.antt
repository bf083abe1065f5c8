pub mod AddedRowsAreFresh
pub mod RowsInKeyOrder
pub mod TablesHaveValidValues
