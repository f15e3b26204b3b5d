pub mod ChangeTimes
pub mod PinCounts
pub mod GatePins
pub mod Merging
pub mod NextChanges
pub mod LaterCopies
pub mod Turning
mod BackwardSteps
mod ChangeCounts
pub mod EndValues
mod PrefixLengths
mod Replaying
mod Sampling
