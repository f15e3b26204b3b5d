pub mod Starts
pub mod Told
