pub mod Marks
pub mod FoundLines
pub mod SourceLinks
pub mod Ends
pub mod Ranks
pub mod KeptCones
