pub mod GateValues
mod KnownCircuits
pub mod NonrobustPath
mod OnPathPin
mod PathSteps
pub mod PinCopies
pub mod PinPlaces
pub mod Prefixes
pub mod RelatedValues
pub mod RobustPath
pub mod StepCounts
pub mod Steadiness
mod ThreeValues
pub mod Ordered
pub mod Appending
pub mod Arcs
pub mod Heads
pub mod Moving
pub mod Taking
pub mod Taken
pub mod Choosing
pub mod Stepping
pub mod Growing
pub mod LastEntry
pub mod FirstTurns
pub mod Unfolding
pub mod FirstWalks
pub mod ArcPins
pub mod WalkOrder
pub mod FirstPaths
pub mod ShortWalks
pub mod WalkPaths
pub mod Numbered
