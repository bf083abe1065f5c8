pub mod RouteTableIsInserted
pub mod PathParts
pub mod KnownPaths
pub mod HeadEnds
pub mod OriginScheme
pub mod PartIsFound
pub mod BodyIsOfInput
pub mod InputDeterminesTask
pub mod JudgedCommands
pub mod ExecutedCommands
pub mod WholeInput
mod ComeRequests
