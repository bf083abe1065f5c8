pub mod IndexesInLists
pub mod NoErrorIffWellFormed
