pub mod ByName
pub mod CircuitLines
pub mod Evaluation
pub mod PinRow
pub mod RankOrder
pub mod StoredLists
