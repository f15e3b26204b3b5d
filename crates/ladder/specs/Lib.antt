pub mod Ladder
pub mod Statements
