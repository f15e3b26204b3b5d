pub mod Known
pub mod Lanes
pub mod Blocks
pub mod Expected
pub mod KeptLinks
