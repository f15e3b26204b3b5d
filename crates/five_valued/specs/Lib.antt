pub mod FiveSets
pub mod FiveValues
