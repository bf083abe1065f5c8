pub mod FirstPassing
pub mod FilteredRows
pub mod SortedCopy
pub mod BinarySearch
mod RunEnds
