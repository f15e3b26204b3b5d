pub mod Choices
pub mod Told
