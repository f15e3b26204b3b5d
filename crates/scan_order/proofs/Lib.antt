mod FlopNames
mod Lines
mod Placed
mod ChainLines
mod Passing
mod Refused
mod Taken
pub mod Linked
mod ReadSoFar
pub mod CircuitChains
pub mod ScanLaws
