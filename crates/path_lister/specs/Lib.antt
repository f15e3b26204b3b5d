pub mod Ranking
pub mod Rows
pub mod Stops
pub mod Graphs
