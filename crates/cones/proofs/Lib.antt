mod Images
pub mod Finding
pub mod Spreading
pub mod SourceHeads
mod Numbers
pub mod RankPlaces
pub mod RankedCones
mod ConeLists
mod ConeScans
mod Keeping
mod Marking
mod Sweep
