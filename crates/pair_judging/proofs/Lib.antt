pub mod LinkedStates
mod LinkBits
mod Joining
mod ConePass
mod StepStates
pub mod Judged
pub mod Taking
mod ConeJudging
mod StaleGates
mod PinsJoined
