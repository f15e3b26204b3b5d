pub mod Tokens
pub mod Reads
pub mod Cuts
pub mod Digits
pub mod LineFiles
