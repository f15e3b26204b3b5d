pub mod LogRows
pub mod LogFile
pub mod Least
pub mod Bounds
pub mod Inside
