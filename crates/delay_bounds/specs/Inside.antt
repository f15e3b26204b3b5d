pub mod Bare
pub mod Taking
pub mod Earliest
