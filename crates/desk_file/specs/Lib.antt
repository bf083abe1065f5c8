pub mod NewFile
pub mod Timing
pub mod Working
pub use NewFile.{new_page}
pub use Working.{IsOutOfMemory, Opens, WasDone, in_memory}
