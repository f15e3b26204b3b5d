pub mod FlatLists
pub mod Links
pub mod Memory
pub mod Pair
pub mod Route
pub mod Target
