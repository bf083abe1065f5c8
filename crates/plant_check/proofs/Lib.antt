pub mod FaultIfBroken
pub mod FallBreaksRule
pub mod FoundIfDisobeyed
pub mod FirstFoundIsFirstBroken
pub mod ObeyedValues
pub mod ObeyedColumns
