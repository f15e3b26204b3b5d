pub mod Moving
pub mod GateCopies
