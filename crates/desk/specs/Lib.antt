pub mod Served
pub mod WorkContracts
