pub mod BookedRowsMove
pub mod CycleTestIsExact
pub mod EdgeListsCompared
mod SortedDistinctIsPutAll
