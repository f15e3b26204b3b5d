pub mod Right
pub mod Flaws
pub mod Claims
pub mod Prefixes
pub mod PrefixNodes
pub mod FaultsInRows
pub mod JudgedPaths
