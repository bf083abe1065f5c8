pub mod FoundRows
pub mod RowsOfLot
pub mod PrefetchedPage
pub mod PrefetchSteps
pub mod MergedLists
pub mod HoldsOfAllLots
mod SmallNumbers
mod InsertionFromEnd
pub mod PutSplitsList
