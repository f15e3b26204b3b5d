pub mod Completions
pub mod FiveTests
pub mod Joins
mod KnownFives
