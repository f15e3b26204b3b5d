mod Assembly
pub mod ByLine
pub mod Circuits
pub mod Counting
mod Deep
mod Defining
mod Distinct
pub mod Exclusive
mod FirstBytes
mod FoundByOrder
mod GatePlaces
mod GreatestMore
mod Idle
mod Inserting
pub mod KnownUses
pub mod Levelled
mod Looking
mod NameFaults
mod NameParts
mod NameSort
mod Naming
mod Pieces
pub mod Placing
pub mod Ranking
mod RawStatements
pub mod ReadStatements
mod ReaderCounts
pub mod Readers
pub mod Releasing
mod Results
mod Rooms
pub mod Wired
