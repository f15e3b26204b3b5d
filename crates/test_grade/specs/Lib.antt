pub mod Compact
pub mod Compacted
pub mod Lines
pub mod Serving
