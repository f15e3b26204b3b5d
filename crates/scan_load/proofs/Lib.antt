pub mod Shifts
pub mod LaunchedPairs
