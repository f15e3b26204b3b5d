pub mod Faults
pub mod GoodRun
pub mod Truth
pub mod Shortest
pub mod ZeroOutside
pub mod Promises
