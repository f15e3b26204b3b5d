pub mod Applying
pub mod Completeness
pub mod FirstOnce
pub mod Growing
pub mod Numbers
pub mod PathsInOrder
pub mod Promising
pub mod Verdicts
