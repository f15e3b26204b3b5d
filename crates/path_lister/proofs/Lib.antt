mod Counting
pub mod Pairs
pub mod Ranked
pub mod Nodes
pub mod RowsMore
pub mod Stopping
pub mod Assembling
pub mod Bounds
