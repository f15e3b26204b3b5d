pub mod Graph
pub mod Walks
pub mod Order
pub mod Entries
pub mod Lists
pub mod Growth
pub mod Listed
pub mod CircuitGraph
