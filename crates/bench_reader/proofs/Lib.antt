pub mod Scanning
pub mod Listing
pub mod Arguments
pub mod Lawful
pub mod LineReadings
pub mod Answering
pub mod Cutting
pub mod Gathering
pub mod LawfulCircuits
pub mod Writing
pub mod CanonicalText
pub mod CircuitAgain
mod LawfulBytes
mod NamedLines
mod Projections
pub mod StatementLines
mod StatementTexts
