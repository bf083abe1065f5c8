pub mod AdoptedState
mod ReadKeepsState
mod ImportEnds
mod OneLinePrinted
mod FaultOrigins
