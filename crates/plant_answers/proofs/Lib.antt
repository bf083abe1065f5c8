pub mod BatchRowLookup
pub mod EdgesAreBooked
pub mod NodesExist
pub mod PlainTables
pub mod BalancesListReached
