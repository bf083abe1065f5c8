pub mod EndsFound
pub mod LayoutParts
pub mod PathsAlongEdges
pub mod PositionsLoop
pub mod RowsLoop
pub mod EdgesLeadRight
pub mod LayersLoop
pub mod DanglingEnds
